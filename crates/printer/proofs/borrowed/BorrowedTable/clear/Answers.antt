use Rattle.std.proofs.Common.{◌<◌, ◌-◌, rules, ap, ◌∙◌, length-set, Some, arith}
use Rattle.printer.specs.Borrowed.{rows_in}
use Rattle.printer.specs.Rows.{row_of, fit}
use Rattle.printer.proofs.Laid.{fit_set, value_fits}
use Rattle.printer.proofs.LaidOut.{stored_in, rest_stored, rest_wiped}
use Rattle.printer.proofs.borrowed.BorrowedTable.clear.Goals as goal

pub invariant_of-self : goal.invariant_of-self
invariant_of-self c =
    let s = c.loop-self.self in
    let i = s.used - 1 in
    let lt : i < s.used = search (rules, arith) in
    (ap fit (stored_in s.rows i c.empty.result) ∙ fit_set (rows_in s.rows) i (row_of (Some c.empty.result.value.now)) s.fits (value_fits c.empty.result.value.now (search (rules, arith))), (length-set s.rows i _ ∙ s.all, (s.few, (rest_stored s.rows s.used i c.empty.result lt s.rest, tt))))

pub invariant_of-self-in-loop-self : goal.invariant_of-self-in-loop-self
invariant_of-self-in-loop-self c =
    let s = c.loop-self.self in
    let i = s.used - 1 in
    let some : 0 < s.used = search (rules, arith) in
    record {
      fits = ap fit (stored_in s.rows i c.empty.result) ∙ fit_set (rows_in s.rows) i (row_of (Some c.empty.result.value.now)) s.fits (value_fits c.empty.result.value.now (search (rules, arith)));
      all = length-set s.rows i _ ∙ s.all;
      few = omega (arith, s.few);
      rest = rest_wiped s.rows s.used c.empty.result some (search (rules, arith)) s.few c.empty.ensures s.rest;
    }
