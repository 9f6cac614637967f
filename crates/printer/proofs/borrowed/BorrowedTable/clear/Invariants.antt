use Rattle.std.proofs.Common.{◌≤◌}
use Rattle.printer.proofs.borrowed.BorrowedTable.clear.Given as goal

abbrev pub invariant-loop-self : goal.invariant-loop-self
invariant-loop-self l = l.self.used ≤ 64

abbrev pub decreases-loop-self : goal.decreases-loop-self
decreases-loop-self l = l.self.used
