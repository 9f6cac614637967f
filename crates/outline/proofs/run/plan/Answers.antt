use Rattle.std.proofs.Common.{◌≡◌, ◌<◌, ◌≤◌, map, length, Some, None, Ok, Err, vec_items, Result, sym, ap, ◌∙◌, subst, arith, rules}
use Rattle.fault.specs.declared.flaw.Flaw.{Flaw}
use Rattle.fault.specs.declared.failure.Failure.{Failure}
use Rattle.fault.specs.declared.failure.Failure.TheVariants.{Refused, NoMemory}
use Rattle.host.specs.Run.{run, run_hole, plan}
use Rattle.template.specs.Lexing.{lexed_from}
use Rattle.template.specs.Walk.{Reads}
use Rattle.template.specs.Judging.{Verdict, verdict}
use Rattle.template.proofs.Read.{reads_hole}
use Rattle.outline.specs.Telling.{Tells}
use Rattle.outline.specs.Tokens.{token_of, Planned}
use Rattle.outline.specs.Runs.{state_of}
use Rattle.outline.proofs.Walks.{Walks, accepted_walks}
use Rattle.outline.proofs.Items.{items_of, items, planned}
use Rattle.outline.proofs.Turns.{hole_stands, hole_walks, hole_runs}
use Rattle.outline.proofs.run.plan.Goals as goal

pub loop-read-init : goal.loop-read-init
loop-read-init g c = search (rules, accepted_walks)

pub returns-in_err-map_err-in-Hole : goal.returns-in_err-map_err-in-Hole
returns-in_err-map_err-in-Hole g c =
    let m = g.H.Host.meaning c.args.host.now in
    let t = c.args.template.now in
    let h = c.in-Hole.field-0 in
    let rest = lexed_from t c.next.new.self.at in
    let reads : Reads c.loop-read.read-iterator (Some (Ok c.in_ok-place.field-0)) c.next.new.self = search rules in
    let read = reads_hole _ _ _ h t reads (search rules) (search rules) in
    let walked = subst (λ l. Walks m l c.loop-read.run.context) read c.loop-read.invariant.5 in
    let stands : run_hole m c.loop-read.holes (state_of c.loop-read.run) ≡ None → ⊥ = hole_stands m rest h.place h.name.now c.loop-read.holes (state_of c.loop-read.run) walked in
    search (rules, stands)

pub loop-read-preserved : goal.loop-read-preserved
loop-read-preserved g c =
    let m = g.H.Host.meaning c.args.host.now in
    let t = c.args.template.now in
    let h = c.in-Hole.field-0 in
    let k = c.loop-read.holes in
    let s = state_of c.loop-read.run in
    let after = state_of c.cross.new.self in
    let rest = lexed_from t c.next.new.self.at in
    let reads : Reads c.loop-read.read-iterator (Some (Ok c.in_ok-place.field-0)) c.next.new.self = search rules in
    let read = reads_hole _ _ _ h t reads (search rules) (search rules) in
    let onward : (c.loop-read.read-iterator.at < c.next.new.self.at) × (c.next.new.self.at ≤ length t) = search rules in
    let walked = subst (λ l. Walks m l c.loop-read.run.context) read c.loop-read.invariant.5 in
    let crossed : run_hole m k s ≡ Some after = search rules in (
      search rules,
      search rules,
      search rules,
      onward.1,
      omega arith,
      hole_walks m rest h.place h.name.now k s walked after crossed,
      sym (hole_runs m rest h.place h.name.now k s walked after crossed) ∙ ap (λ l. run m (items_of l) k s) (sym read) ∙ c.loop-read.invariant.6,
    )

-- what is told with P is told with what P gives
told : {A : Type 0} (P Q : A → Type 0) → ((x : A) → P x → Q x) → (r : Result A (Failure Flaw)) (v : Verdict) → Tells r v P → Tells r v Q
told P Q f (Ok x) v e = (e.0, f x e.1)
told P Q f (Err (Refused flaw)) v e = e
told P Q f (Err NoMemory) v e = e

pub returns : goal.returns
returns g c =
    let m = g.H.Host.meaning c.args.host.now in
    let t = c.args.template.now in
    told (λ v. plan m (items t) ≡ Some (map token_of (vec_items v))) (λ v. Planned m t (vec_items v)) (λ v. planned m t (vec_items v)) c.map_err-2.result (verdict m t) (search rules)
