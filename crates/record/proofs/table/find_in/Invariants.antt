use Rattle.std.proofs.Common.{◌≡◌, drop}
use Rattle.record.specs.Answers.{value_span}
use Rattle.record.proofs.table.find_in.Given as goal

abbrev pub invariant-loop-entry : goal.invariant-loop-entry
invariant-loop-entry l = value_span l.input l.wanted (drop l.entry-index l.entries) ≡ value_span l.input l.wanted l.entries
