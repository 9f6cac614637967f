use Rattle.std.proofs.Common.{◌≡◌, drop}
use Rattle.host.specs.Run.{read_bytes}
use Rattle.outline.specs.Runs.{state_of}
use Rattle.outline.proofs.run.Run.read_all.Given as goal

abbrev pub invariant-loop-byte : goal.invariant-loop-byte
invariant-loop-byte g l = let m = g.H.Host.meaning l.host in read_bytes m (drop l.byte-index l.bytes) (state_of l.self) ≡ read_bytes m l.bytes (state_of l.initial.self)
