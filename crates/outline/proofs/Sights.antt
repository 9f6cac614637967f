-- One item more of what a run meets.
use Rattle.std.proofs.Common.{◌≡◌, ℕ, List, [], ◌∷◌, ◌++◌, map, Some, None, Ok, Err, Option, sym, refl, ap, ◌∙◌, subst, append_assoc}
use Rattle.std.proofs.lemmas.List.{map_push}
use Rattle.std.proofs.lemmas.Option.{MatchOption-at_some}
use Rattle.host.specs.declared.effect.Effect.{Effect}
use Rattle.host.specs.Meaning.{Meaning}
use Rattle.fault.specs.Refusal.{Report, report}
use Rattle.template.specs.declared.item.Item.{Item}
use Rattle.template.specs.declared.item.Item.TheVariants.{Literal, Hole}
use Rattle.template.specs.declared.items.Items.{Items}
use Rattle.template.specs.declared.items.Placed.{Placed}
use Rattle.template.specs.Lexing.{Lexed, hole, lexed_from, then}
use Rattle.template.specs.Walk.{Reads}
use Rattle.template.specs.Judging.{crossing, decide}
use Rattle.outline.specs.declared.visit.Visit.{Visit}
use Rattle.outline.specs.Visits.{Sight, sight, literal, gap, met_of, sight_of, passing}
use Rattle.outline.proofs.Walks.{Walks}
use Rattle.outline.proofs.Places.{Begins, begins_at}
use Rattle.outline.proofs.Visited.{visited_from}

-- what comes of an item that is passed: it is met, and the walk goes on after it
record Passed (m : Meaning) (p c : ℕ) (item : Item) (rest : Lexed) (next : ℕ) : Type 0 where
  meets : visited_from m (then item p rest) c ≡ sight p c (met_of item) ∷ visited_from m rest next
  walks : Walks m rest next

-- what was decided where there is a context after an item
decided : {A : Type 0} (o : Option A) (r : Report) (f : A → ℕ) (next : ℕ) → Ok next ≡ decide o (Err r) (λ x. Ok (f x)) → (x : A) × (o ≡ Some x) × (f x ≡ next)
decided None r f next e = cc
decided (Some x) r f next e = (x, refl, cc)

passed : (m : Meaning) (p c : ℕ) (item : Item) (rest : Lexed) (next : ℕ) → Begins p (then item p rest) → Walks m (then item p rest) c → Ok next ≡ passing m c item p → Passed m p c item rest next
passed m p c (Literal b) rest next at w e =
    let d = decided (m.step c b) (report 6 p) (λ s. s.0) next e in
    let on : Option (ℕ × Effect) → List Sight = λ o. sight p c (literal b) ∷ decide o [] (λ s. visited_from m rest s.0) in
    record {
      meets = ap on d.1 ∙ ap (λ k. sight p c (literal b) ∷ visited_from m rest k) d.2;
      walks = subst (Walks m rest) d.2 (MatchOption-at_some ⊥ (λ s. Walks m rest s.0) d.0 d.1 w);
    }
passed m p c (Hole h) rest next at w e =
    let d = decided (crossing m c) (report 7 p) (λ x. x.1) next e in
    let met = gap h.name.now in
    let on : Option (ℕ × ℕ) → List Sight = λ o. sight p c (met p) ∷ decide o [] (λ x. visited_from m rest x.1) in
    record {
      meets = ap (λ q. visited_from m (hole q h.name.now rest) c) at ∙ ap on d.1 ∙ ap (λ k. sight p c (met p) ∷ visited_from m rest k) d.2 ∙ ap (λ q. sight p c (met q) ∷ visited_from m rest next) (sym at);
      walks = subst (Walks m rest) d.2 (MatchOption-at_some ⊥ (λ x. Walks m rest x.1) d.0 d.1 w);
    }

-- what is met so far and what is left give the whole, one item on
pub met_more : (m : Meaning) (s t : Items) (x : Placed) (c d : ℕ) (vs ws : List Visit) (whole : List Sight) → Reads s (Some (Ok x)) t → Walks m (lexed_from s.template.now s.at) c → Ok d ≡ passing m c x.item x.place → ws ≡ vs ++ (record { place = x.place; context = c; item = x.item } ∷ []) → map sight_of vs ++ visited_from m (lexed_from s.template.now s.at) c ≡ whole → Walks m (lexed_from t.template.now t.at) d × (map sight_of ws ++ visited_from m (lexed_from t.template.now t.at) d ≡ whole)
met_more m s t x c d vs ws whole r w e pushed is =
    let p = x.place in
    let bs = s.template.now in
    let rest = lexed_from bs t.at in
    let v : Visit = record { place = p; context = c; item = x.item } in
    let read : lexed_from bs s.at ≡ then x.item p rest = sym r.reads in
    let begun : Begins p (then x.item p rest) = subst (Begins p) read (subst (λ q. Begins p (lexed_from bs q)) r.onward.0 (begins_at bs p)) in
    let q = passed m p c x.item rest d begun (subst (λ l. Walks m l c) read w) e in
    let more : map sight_of ws ++ visited_from m rest d ≡ whole =
    ap (λ l. map sight_of l ++ visited_from m rest d) pushed
    ∙ ap (λ l. l ++ visited_from m rest d) (map_push sight_of vs v)
    ∙ append_assoc (map sight_of vs) (sight_of v ∷ []) (visited_from m rest d)
    ∙ ap (λ l. map sight_of vs ++ l) (sym q.meets ∙ ap (λ l. visited_from m l c) (sym read))
    ∙ is in
    subst (λ b. Walks m (lexed_from b t.at) d × (map sight_of ws ++ visited_from m (lexed_from b t.at) d ≡ whole)) (sym r.same) (q.walks, more)
