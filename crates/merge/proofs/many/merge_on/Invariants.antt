use Rattle.std.proofs.Common.{◌≡◌, ◌-◌, length, None}
use Rattle.merge.specs.Many.{merged_on}
use Rattle.merge.proofs.Stretch.{Sofar}
use Rattle.merge.proofs.many.merge_on.Given as goal

abbrev pub invariant-loop-done : goal.invariant-loop-done
invariant-loop-done g l =
    let m = g.H.Host.meaning l.prepared.host.now in
    let t = l.prepared.checked.template.now in
    record {
      sofar : Sofar (merged_on m t l.input l.most l.initial.done.next (length l.initial.out)) (merged_on m t l.input (l.most - l.done.count) l.done.next (length l.initial.out - l.done.len)) l.initial.out l.out l.done.count l.done.len;
      unrefused : l.done.refusal ≡ None;
    }

abbrev pub decreases-loop-done : goal.decreases-loop-done
decreases-loop-done g l = l.most - l.done.count
