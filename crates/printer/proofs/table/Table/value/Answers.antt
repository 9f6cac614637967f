use Rattle.std.proofs.Common.{◌≡◌, get_or, rules}
use Rattle.printer.proofs.Laid.{past, len_fits}
use Rattle.printer.proofs.table.Table.value.Goals as goal

pub value-requires : goal.value-requires
value-requires c =
    let is : c.in-Some.row.now ≡ get_or c.args.self.now.rows c.args.hole past = search rules in
    rw is (len_fits c.args.self.now.rows c.args.hole c.args.self.now.fits)
