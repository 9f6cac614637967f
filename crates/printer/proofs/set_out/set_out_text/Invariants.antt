use Rattle.std.proofs.Common.{◌≡◌, ◌-◌, ◌*◌, ◌≤◌, length, slice_index}
use Rattle.host.specs.Answers.{bytes_of}
use Rattle.template.specs.Lexing.{lexed_from}
use Rattle.printer.specs.Borrowed.{rows_in}
use Rattle.printer.specs.Passes.{sets_out, onward}
use Rattle.printer.specs.Rows.{value_at}
use Rattle.printer.proofs.set_out.set_out_text.Given as goal

abbrev pub invariant-loop-read : goal.invariant-loop-read
invariant-loop-read g l =
    let m = g.H.Host.meaning l.host in
    let cs = slice_index (bytes_of l.survey.contexts) in
    let v = value_at (rows_in l.values.rows) in
    let t = l.items.template.now in
    record {
      same_template : t ≡ l.filled.template.now;
      within : l.items.at ≤ length t;
      few : l.holes ≤ l.items.at;
      near : l.page.end ≤ 968 * l.items.at;
      same : onward l.page.end l.out (sets_out m cs v (lexed_from t l.items.at) l.holes) ≡ onward 0 l.initial.out (sets_out m cs v (lexed_from l.filled.template.now 0) 0);
    }

abbrev pub decreases-loop-read : goal.decreases-loop-read
decreases-loop-read g l = length l.filled.template.now - l.items.at
