use Rattle.std.proofs.Common.{◌≡◌, drop}
use Rattle.template.specs.Judging.{reach}
use Rattle.template.proofs.check.walk.Given as goal

abbrev pub invariant-loop-byte : goal.invariant-loop-byte
invariant-loop-byte g l = let m = g.H.Host.meaning l.host in reach m l.context (drop l.byte-index l.bytes) ≡ reach m l.from l.bytes
