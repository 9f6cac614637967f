use Rattle.std.proofs.Common.{ap, ◌∙◌}
use Rattle.printer.specs.Rows.{fit}
use Rattle.printer.proofs.Laid.{fit_blank}
use Rattle.printer.proofs.LaidOut.{none_held}
use Rattle.printer.proofs.borrowed.BorrowedTable.new.Goals as goal

pub invariant_of-result-clause-fits : goal.invariant_of-result-clause-fits
invariant_of-result-clause-fits c = ap fit (none_held 64 c.empty-row.result c.empty-row.ensures) ∙ fit_blank 64

pub invariant_of-result-clause-rest : goal.invariant_of-result-clause-rest
invariant_of-result-clause-rest c = none_held 64 c.empty-row.result c.empty-row.ensures

pub returns : goal.returns
returns c = none_held 64 c.empty-row.result c.empty-row.ensures
