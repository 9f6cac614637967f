use Rattle.std.proofs.Common.{◌≡◌, ℕ, ◌-◌, length, subst, arith, rules}
use Rattle.fault.specs.Refusal.{refusal_of}
use Rattle.merge.specs.Many.{merged_on}
use Rattle.merge.proofs.Stretch.{Sofar, ended, stopped_at_end, stopped_by, merged_one}
use Rattle.merge.proofs.many.merge_on.Goals as goal

pub overflow_add-done-in-Ok-Some : goal.overflow_add-done-in-Ok-Some
overflow_add-done-in-Ok-Some g c =
    let a = c.args in
    let d = c.loop-done.done in
    let more = merged_one (g.H.Host.meaning a.prepared.now.host.now) a.prepared.now.checked.template.now a.input.now _ a.out.now c.loop-done.out c.merge_behind.new.out d.count d.len d.next a.most c.loop-done-test.true c.in-Ok-Some.field-0-0 c.loop-done.invariant.sofar (search rules) c.merge_behind.ensures.text (search rules) in
    search (rules, more.within)

pub loop-done-preserved : goal.loop-done-preserved
loop-done-preserved g c =
    let a = c.args in
    let d = c.loop-done.done in
    record {
      sofar = merged_one (g.H.Host.meaning a.prepared.now.host.now) a.prepared.now.checked.template.now a.input.now _ a.out.now c.loop-done.out c.merge_behind.new.out d.count d.len d.next a.most c.loop-done-test.true c.in-Ok-Some.field-0-0 c.loop-done.invariant.sofar (search rules) c.merge_behind.ensures.text (search rules);
      unrefused = c.loop-done.invariant.unrefused;
    }

pub returns-in-Ok-None : goal.returns-in-Ok-None
returns-in-Ok-None g c =
    let a = c.args in
    let d = c.loop-done.done in
    let s = stopped_at_end (g.H.Host.meaning a.prepared.now.host.now) a.prepared.now.checked.template.now a.input.now _ a.out.now c.loop-done.out c.merge_behind.new.out d.count d.len d.next a.most c.loop-done-test.true c.loop-done.invariant.sofar (search rules) c.merge_behind.ensures.text in
    let e = ended _ _ _ _ _ _ _ s in
    record { answer = rw c.loop-done.invariant.unrefused e.0; text = e.1 }

pub returns-in-Err : goal.returns-in-Err
returns-in-Err g c =
    let a = c.args in
    let d = c.loop-done.done in
    let s = stopped_by (g.H.Host.meaning a.prepared.now.host.now) a.prepared.now.checked.template.now a.input.now _ a.out.now c.loop-done.out c.merge_behind.new.out d.count d.len d.next a.most c.loop-done-test.true (refusal_of c.in-Err.fault) c.loop-done.invariant.sofar (search rules) c.merge_behind.ensures.text in
    let e = ended _ _ _ _ _ _ _ s in
    record { answer = e.0; text = e.1 }

pub returns : goal.returns
returns g c =
    let a = c.args in
    let old = a.out.now in
    let d = c.loop-done.done in
    let m = g.H.Host.meaning a.prepared.now.host.now in
    let t = a.prepared.now.checked.template.now in
    let whole = merged_on m t a.input.now a.most a.place (length old) in
    let none : a.most - d.count ≡ 0 = omega (arith, c.loop-done-test.false) in
    let s = subst (λ (n : ℕ). Sofar whole (merged_on m t a.input.now n d.next (length old - d.len)) old c.loop-done.out d.count d.len) none c.loop-done.invariant.sofar in
    let e = ended _ _ _ _ _ _ _ s in
    record { answer = rw c.loop-done.invariant.unrefused e.0; text = e.1 }
