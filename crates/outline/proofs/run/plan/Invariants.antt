use Rattle.std.proofs.Common.{◌≡◌, ◌≤◌, length}
use Rattle.host.specs.Run.{run, start}
use Rattle.template.specs.Lexing.{lexed_from}
use Rattle.outline.specs.Runs.{state_of}
use Rattle.outline.proofs.Walks.{Walks}
use Rattle.outline.proofs.Items.{items_of, items}
use Rattle.outline.proofs.run.plan.Given as goal

abbrev pub invariant-loop-read : goal.invariant-loop-read
invariant-loop-read g l =
    let m = g.H.Host.meaning l.host in
    let at = l.read-iterator.at in
    let left = lexed_from l.template at in
    (goal.iterator-loop-read g).can_next l.read-iterator
    × (goal.iterator-loop-read g).is_finite l.read-iterator
    × (l.read-iterator.template.now ≡ l.template)
    × (at ≤ length l.template)
    × (l.holes ≤ at)
    × Walks m left l.run.context
    × (run m (items_of left) l.holes (state_of l.run) ≡ run m (items l.template) 0 start)
