use Rattle.std.proofs.Common.{◌≡◌, ◌-◌, ◌≤◌, length}
use Rattle.template.specs.Judging.{survey_of}
use Rattle.template.specs.Lexing.{lexed_from}
use Rattle.printer.specs.Calls.{borrowed_state}
use Rattle.merge.specs.Answers.{source_pairs, bind_pieces}
use Rattle.merge.proofs.bind_all.Given as goal

abbrev pub invariant-loop-read : goal.invariant-loop-read
invariant-loop-read g l =
    let m = g.H.Host.meaning l.host in
    let d = survey_of l.survey in
    let ps = source_pairs l.source in
    let end = l.source.found.now.end in
    let t = l.items.template.now in
    record {
      same_template : t ≡ l.checked.template.now;
      within : l.items.at ≤ length t;
      few : l.hole ≤ l.items.at;
      kept : l.filling.template ≡ l.initial.filling.template;
      same : bind_pieces m d ps end (borrowed_state l.initial.filling l.initial.table) 0 (lexed_from l.checked.template.now 0) ≡ bind_pieces m d ps end (borrowed_state l.filling l.table) l.hole (lexed_from t l.items.at);
    }

abbrev pub decreases-loop-read : goal.decreases-loop-read
decreases-loop-read g l = length l.checked.template.now - l.items.at
