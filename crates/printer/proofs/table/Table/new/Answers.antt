use Rattle.std.proofs.Common.{ap, ◌∙◌}
use Rattle.printer.specs.Rows.{fit}
use Rattle.printer.proofs.Laid.{blank_is, fit_blank}
use Rattle.printer.proofs.table.Table.new.Goals as goal

pub invariant_of-result-clause-fits : goal.invariant_of-result-clause-fits
invariant_of-result-clause-fits c = ap fit (blank_is 64 _ c.empty-row.ensures) ∙ fit_blank 64

pub returns : goal.returns
returns c = blank_is 64 _ c.empty-row.ensures
