use Rattle.std.proofs.Common.{◌≡◌, ◌*◌, ◌≤◌, length}
use Rattle.template.specs.Lexing.{lexed_from}
use Rattle.printer.specs.Passes.{prints, onward}
use Rattle.printer.specs.Rows.{value_at}
use Rattle.printer.proofs.print.walk_text.Given as goal

abbrev pub invariant-loop-read : goal.invariant-loop-read
invariant-loop-read g l =
    let m = g.H.Host.meaning l.host in
    let v = value_at l.values.rows in
    let at = l.read-iterator.at in
    record {
      same_template : l.read-iterator.template.now ≡ l.template;
      within : at ≤ length l.template;
      few : l.holes ≤ at;
      near : l.page.end ≤ 968 * at;
      same : onward l.page.end l.out (prints m v (lexed_from l.template at) l.holes l.context) ≡ onward 0 l.initial.out (prints m v (lexed_from l.template 0) 0 0);
    }
