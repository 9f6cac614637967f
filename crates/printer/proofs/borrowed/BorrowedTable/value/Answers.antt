use Rattle.std.proofs.Common.{◌<◌, length, sym, rules}
use Rattle.printer.specs.Borrowed.{rows_in}
use Rattle.printer.proofs.Laid.{value_short}
use Rattle.printer.proofs.LaidOut.{found_at}
use Rattle.printer.proofs.borrowed.BorrowedTable.value.Goals as goal

pub returns : goal.returns
returns c =
    let rows = c.args.self.now.rows in
    let there : c.args.hole < length rows = search rules in
    let is = found_at rows c.args.hole c.in-Some.row.now there (λ d. search rules) in
    record { value = sym is; short = rw (sym is) (value_short (rows_in rows) c.args.hole c.args.self.now.fits) }
