use Rattle.std.proofs.Common.{◌≡◌, ℕ, ◌≤◌, List, vec_items, ap, subst, length, rules}
use Rattle.host.specs.Meaning.{Meaning}
use Rattle.template.specs.Judging.{verdict, survey_of}
use Rattle.printer.specs.Calls.{state_of, bodies_of}
use Rattle.printer.specs.Held.{Holds, judged_finish}
use Rattle.printer.specs.Passes.{walked}
use Rattle.printer.specs.Rows.{value_at}
use Rattle.printer.specs.Slate.{fresh}
use Rattle.template.proofs.Accepted.{accepted_is}
use Rattle.worklist.specs.declared.line.Answer.{Answer}
use Rattle.worklist.specs.Calls.{GoneDown, print_of, print_after, output_after}
use Rattle.worklist.proofs.Working.{worked}
use Rattle.worklist.proofs.work.work.Goals as goal

pub returns-clause-kept : goal.returns-clause-kept
returns-clause-kept g c =
    let a = c.args in
    let m = g.H.Host.meaning a.sheet.now.host in
    let t = a.raw.template.now in
    let s = c.in_ok-checked.survey in
    let st₀ = state_of c.open-filling.result c.open-filling.new.sheet.table in
    let st₁ = state_of c.follow_all.new.filling c.follow_all.new.sheet.table in
    let w = c.conclude.result in
    let old = a.out.now in
    let new = c.conclude.new.out in
    let before = vec_items a.answers.now in
    let all = vec_items c.follow_all.new.answers in
    let judged : verdict m t ≡ survey_of s = search rules in
    let few : s.bodies.len ≤ 64 = (accepted_is m t s.bodies.len (bodies_of s) judged).few in
    let begun : Holds st₀ (fresh s.bodies.len) = subst (λ (k : ℕ). Holds st₀ (fresh k)) (search rules) c.open-filling.ensures.slate in
    let gone : GoneDown m (bodies_of s) st₀ st₁ before all a.lines.now =
    subst (λ (x : List Answer). GoneDown m (bodies_of s) st₀ st₁ x all a.lines.now) c.reserve.ensures.items
    (subst (λ (k : Meaning). GoneDown k (bodies_of s) st₀ st₁ (vec_items c.reserve.new.self) all a.lines.now) (ap g.H.Host.meaning c.open-filling.ensures.host) c.follow_all.ensures.slate) in
    let x = walked m (value_at st₁.rows) t (length old) in
    let printed : print_of w.print ≡ print_after (judged_finish st₁.holes st₁.owed) x = search rules in
    let wrote : new ≡ output_after (judged_finish st₁.holes st₁.owed) old x = search rules in
    worked m (g.met.H.Host.sound a.sheet.now.host) t s judged a.lines.now st₀ st₁ begun before all gone w old new c.conclude.ensures.finish printed wrote
