use Rattle.std.proofs.Common.{◌≡◌, ◌+◌, ◌*◌, ◌≤◌, length, take, drop}
use Rattle.record.specs.Format.{packed}
use Rattle.record.specs.Writing.{pairs_in, refused_from, refused_pairs}
use Rattle.record.proofs.writer.judge_pairs.Given as goal

-- the first pairs are taken, and the next would stand at a place
abbrev pub invariant-loop-before : goal.invariant-loop-before
invariant-loop-before l = record {
  few : l.before ≤ 64;
  from : l.place ≤ l.at;
  near : l.at ≤ l.place + 182 * l.before;
  left : refused_from (pairs_in (take l.before l.pairs)) l.at (pairs_in (drop l.before l.pairs)) ≡ refused_pairs l.place (pairs_in l.pairs);
  long : l.at + length (packed (pairs_in (drop l.before l.pairs))) ≡ l.place + length (packed (pairs_in l.pairs));
}
