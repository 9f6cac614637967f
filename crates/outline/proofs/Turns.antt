-- A hole of a run over what is walked: it is not refused, and the run goes on after it.
use Rattle.std.proofs.Common.{◌≡◌, ℕ, suc, ◌+◌, List, Some, None, Option, ap, subst, add-one, MatchOption}
use Rattle.std.proofs.lemmas.Option.{MatchOption-at_some, MatchOption-at_none}
use Rattle.host.specs.Meaning.{Meaning, chain}
use Rattle.host.specs.Run.{State, run_hole, run}
use Rattle.template.specs.Lexing.{Lexed, hole}
use Rattle.template.specs.Judging.{crossing}
use Rattle.template.proofs.Plans.{over, place_of, beyond, crosses}
use Rattle.outline.proofs.Walks.{Walks}
use Rattle.outline.proofs.Items.{items_of}

-- what holds of the place that one answer comes to holds of the place of another that comes to the same
same_place : {A : Type 0} (f : A → ℕ) (P : ℕ → Type 0) (o : Option A) (r : Option State) → over place_of r ≡ over f o → MatchOption o ⊥ (λ x. P (f x)) → MatchOption r ⊥ (λ t. P t.context)
same_place f P None r e w = absurd w
same_place f P (Some x) None e w = cc
same_place f P (Some x) (Some t) e w = let at : f x ≡ t.context = cc in subst P at w

module _ (m : Meaning) (rest : Lexed) (p : ℕ) (n : List ℕ) (k : ℕ) (s : State) (walked : Walks m (hole p n rest) s.context) where
  beyond_hole : MatchOption (run_hole m k s) ⊥ (λ t. Walks m rest t.context)
  beyond_hole = same_place beyond (Walks m rest) (crossing m s.context) (run_hole m k s) (crosses m k s) walked

  pub hole_stands : run_hole m k s ≡ None → ⊥
  hole_stands e = MatchOption-at_none ⊥ (λ u. Walks m rest u.context) e beyond_hole

  pub hole_walks : (t : State) → run_hole m k s ≡ Some t → Walks m rest t.context
  hole_walks t e = MatchOption-at_some ⊥ (λ u. Walks m rest u.context) t e beyond_hole

  pub hole_runs : (t : State) → run_hole m k s ≡ Some t → run m (items_of (hole p n rest)) k s ≡ run m (items_of rest) (k + 1) t
  hole_runs t e = rw add-one (ap (λ o. chain o (run m (items_of rest) (suc k))) e)
