use Rattle.std.proofs.Common.{◌<◌, ◌≤◌, ap, ◌∙◌, length-set, Some, rules, arith}
use Rattle.printer.specs.Borrowed.{rows_in}
use Rattle.printer.specs.Rows.{row_of, fit}
use Rattle.printer.proofs.Laid.{fit_set, value_fits}
use Rattle.printer.proofs.LaidOut.{stored_in, rest_further, rest_stored}
use Rattle.printer.proofs.borrowed.BorrowedTable.store.Goals as goal

pub invariant_of-self : goal.invariant_of-self
invariant_of-self c =
    let s = c.args.self.now in
    let up : s.used ≤ c.max-self.result = search (rules, arith) in
    let few : c.max-self.result ≤ 64 = search (rules, arith) in
    record { fits = s.fits; all = s.all; few = few; rest = rest_further s.rows s.used c.max-self.result up s.rest }

pub invariant_of-self-2 : goal.invariant_of-self-2
invariant_of-self-2 c =
    let a = c.args in
    let s = a.self.now in
    let v = c.max-self.result in
    let up : s.used ≤ v = search (rules, arith) in
    let few : v ≤ 64 = search (rules, arith) in
    let lt : a.hole < v = search (rules, arith) in
    (ap fit (stored_in s.rows a.hole _) ∙ fit_set (rows_in s.rows) a.hole (row_of (Some a.value.now)) s.fits (value_fits a.value.now c.requires.short), (length-set s.rows a.hole _ ∙ s.all, (few, (rest_stored s.rows v a.hole _ lt (rest_further s.rows s.used v up s.rest), tt))))

pub returns : goal.returns
returns c = stored_in c.args.self.now.rows c.args.hole _
