use Rattle.std.proofs.Common.{◌≡◌, ◌+◌, ◌≤◌, ◌++◌, length, drop, vec_items, vec_capacity}
use Rattle.record.specs.Format.{packed}
use Rattle.record.specs.Writing.{pairs_in}
use Rattle.record.proofs.writer.put_record.Given as goal

-- with the rest, the bytes come to the whole, and there is room for it; none is given back
abbrev pub invariant-loop-pair : goal.invariant-loop-pair
invariant-loop-pair l = record {
  left : vec_items l.file ++ packed (pairs_in (drop l.pair-index l.pairs)) ≡ vec_items l.initial.file ++ packed (pairs_in l.pairs);
  more : vec_capacity l.initial.file ≤ vec_capacity l.file;
  room : length (vec_items l.file) + length (packed (pairs_in (drop l.pair-index l.pairs))) ≤ vec_capacity l.file;
}
