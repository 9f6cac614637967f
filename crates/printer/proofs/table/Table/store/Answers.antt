use Rattle.std.proofs.Common.{ap, ◌∙◌, length-set}
use Rattle.printer.specs.Rows.{fits_row}
use Rattle.printer.proofs.Laid.{fit_set, value_fits}
use Rattle.printer.proofs.table.Table.store.Goals as goal

pub invariant_of-self : goal.invariant_of-self
invariant_of-self c =
    let rows = c.args.self.now.rows in
    let row = c.write.new.self in
    record { fits = fit_set rows c.args.hole row c.args.self.now.fits (ap fits_row c.write.ensures ∙ value_fits _ c.requires.short); all = length-set rows c.args.hole row ∙ c.args.self.now.all }
