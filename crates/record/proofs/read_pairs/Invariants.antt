use Rattle.std.proofs.Common.{◌-◌}
use Rattle.record.specs.Reading.{read_at}
use Rattle.record.proofs.Turns.{Sofar}
use Rattle.record.proofs.read_pairs.Given as goal

abbrev pub invariant-loop-len : goal.invariant-loop-len
invariant-loop-len l = Sofar l.input l.place (read_at l.input l.place) l.found.entries l.found.count l.at

abbrev pub decreases-loop-len : goal.decreases-loop-len
decreases-loop-len l = 64 - l.found.count
