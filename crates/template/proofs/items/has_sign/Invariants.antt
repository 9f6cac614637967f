use Rattle.std.proofs.Common.{◌≡◌, ◌+◌, false, drop}
use Rattle.std.specs.List.{prefix_len}
use Rattle.template.specs.Lexing.{is_plain}
use Rattle.template.proofs.items.has_sign.Given as goal

abbrev pub invariant-loop-byte : goal.invariant-loop-byte
invariant-loop-byte l = record {
  none : l.found ≡ false → prefix_len is_plain l.bytes ≡ l.byte-index + prefix_len is_plain (drop l.byte-index l.bytes);
}
