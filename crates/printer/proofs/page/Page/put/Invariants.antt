use Rattle.std.proofs.Common.{◌≡◌, ◌+◌, drop}
use Rattle.printer.specs.Passes.{overlaid}
use Rattle.printer.proofs.page.Page.put.Given as goal

abbrev pub invariant-loop-byte : goal.invariant-loop-byte
invariant-loop-byte l = record {
  far : l.self.end ≡ l.initial.self.end + l.byte-index;
  same : overlaid l.out l.self.end (drop l.byte-index l.bytes) ≡ overlaid l.initial.out l.initial.self.end l.bytes;
}
