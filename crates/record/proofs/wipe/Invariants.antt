use Rattle.std.proofs.Common.{◌≤◌}
use Rattle.record.specs.Answers.{BlankAfter}
use Rattle.record.proofs.wipe.Given as goal

abbrev pub invariant-loop-found : goal.invariant-loop-found
invariant-loop-found l = record {
  few : l.found.count ≤ 64;
  rest : BlankAfter l.found.count l.found.entries;
}

abbrev pub decreases-loop-found : goal.decreases-loop-found
decreases-loop-found l = l.found.count
