use Rattle.std.proofs.Common.{◌≡◌, ◌++◌, map, vec_items}
use Rattle.template.specs.Lexing.{lexed_from}
use Rattle.outline.specs.Visits.{sight_of}
use Rattle.outline.proofs.Walks.{Walks}
use Rattle.outline.proofs.Visited.{visited, visited_from}
use Rattle.outline.proofs.visit.visits.Given as goal

abbrev pub invariant-loop-read : goal.invariant-loop-read
invariant-loop-read g l =
    let m = g.H.Host.meaning l.host in
    let left = lexed_from l.read-iterator.template.now l.read-iterator.at in
    (goal.iterator-loop-read g).can_next l.read-iterator
    × (goal.iterator-loop-read g).is_finite l.read-iterator
    × Walks m left l.context
    × (map sight_of (vec_items l.visits) ++ visited_from m left l.context ≡ visited m l.template)
