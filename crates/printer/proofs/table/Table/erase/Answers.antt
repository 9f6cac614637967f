use Rattle.std.proofs.Common.{ap, ◌∙◌, length-set}
use Rattle.printer.specs.Rows.{fits_row}
use Rattle.printer.proofs.Laid.{fit_set, none_fits}
use Rattle.printer.proofs.table.Table.erase.Goals as goal

pub invariant_of-self : goal.invariant_of-self
invariant_of-self c =
    let rows = c.args.self.now.rows in
    let row = c.wipe.new.self in
    record { fits = fit_set rows c.args.hole row c.args.self.now.fits (ap fits_row c.wipe.ensures ∙ none_fits); all = length-set rows c.args.hole row ∙ c.args.self.now.all }
