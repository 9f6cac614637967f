-- A value that is taken stays until its hole is released.
use Rattle.std.proofs.Common.{◌≡◌, ℕ, zero, suc, ◌+◌, ◌-◌, ◌<◌, ◌≤◌, false, List, [], ◌∷◌, length, get_or, take, set, Some, None, Option, sym, refl, ap, ◌∙◌, subst, inl, inr, arith, get_or-set_other, get_or-set_same}
use Rattle.std.proofs.lemmas.Bool.{false≢true, cases_eq}
use Rattle.std.proofs.lemmas.List.{take_more}
use Rattle.host.specs.Meaning.{Meaning}
use Rattle.fault.specs.Refusal.{Refusal}
use Rattle.printer.specs.Slate.{Slate, owes, owed_at, verdict_bind, verdict_release, settled}
use Rattle.worklist.specs.Lines.{Order, bind, release, owed, taken, owes_now, reply, answer, next, answers, final}
use Rattle.worklist.specs.Promise.{BoundAndLeft}
use Rattle.worklist.proofs.Slates.{keeps, bind_taken, bind_owed, answer_at}
use Rattle.worklist.proofs.Listed.{final_push}

-- a hole with a value is not owed
not_owed : (ss : Slate) (h : ℕ) (v : List ℕ) → get_or ss h None ≡ Some v → owed_at ss h ≡ false
not_owed [] h v e = refl
not_owed (s ∷ ss) zero v e = ap owes e
not_owed (s ∷ ss) (suc h) v e = not_owed ss h v e

reply_taken : (o : Option Refusal) → reply o ≡ taken → o ≡ None
reply_taken o e = grind arith

module _ (m : Meaning) (bodies : List ℕ) where
  -- a line that does not release the hole
  value_kept : (ss : Slate) (o : Order) (h : ℕ) (v : List ℕ) → get_or ss h None ≡ Some v → (o ≡ release h → ⊥) → get_or (next m bodies ss o) h None ≡ Some v
  value_kept ss (bind k w) h v e unless =
      keeps (λ ts. get_or ts h None ≡ Some v) (verdict_bind m bodies ss k w) (set ss k (Some w)) ss
      (λ j.
      elim (cases_eq h k) [
        | inl same ↦ absurd (false≢true (sym (not_owed ss h v e) ∙ ap (owed_at ss) same ∙ bind_owed m bodies (length ss) (owed_at ss k) k w j))
        | inr ne ↦ get_or-set_other ss k h (Some w) None ne ∙ e
      ]) e
  value_kept ss (release k) h v e unless =
      keeps (λ ts. get_or ts h None ≡ Some v) (verdict_release ss k) (set ss k None) ss
      (λ j.
      elim (cases_eq h k) [
        | inl same ↦ absurd (unless (ap release (sym same)))
        | inr ne ↦ get_or-set_other ss k h None None ne ∙ e
      ]) e
  value_kept ss owed h v e unless = e

  -- a bind that is taken
  value_put : (ss : Slate) (h : ℕ) (v : List ℕ) → answer m bodies ss (bind h v) ≡ taken → get_or (next m bodies ss (bind h v)) h None ≡ Some v
  value_put ss h v e =
      let j = reply_taken (verdict_bind m bodies ss h v) e in
      ap (λ (o : Option Refusal). get_or (settled o (set ss h (Some v)) ss) h None) j ∙ get_or-set_same ss h (Some v) None (bind_taken m bodies (length ss) (owed_at ss h) h v j).0

  -- one line more
  final_more : (ss : Slate) (os : List Order) (l : ℕ) → l < length os → final m bodies ss (take (suc l) os) ≡ next m bodies (final m bodies ss (take l os)) (get_or os l owed)
  final_more ss os l lt = let next_is : suc l ≡ l + 1 = omega arith in ap (λ (k : ℕ). final m bodies ss (take k os)) next_is ∙ ap (final m bodies ss) (take_more os l owed lt) ∙ final_push m bodies ss (take l os) (get_or os l owed)

  module _ (ss : Slate) (os : List Order) (i h : ℕ) (v : List ℕ) (here : get_or (final m bodies ss (take (suc i) os)) h None ≡ Some v) where
    onward : (d : ℕ) → suc i + d ≤ length os → ((l : ℕ) → i < l → l < suc i + d → get_or os l owed ≡ release h → ⊥) → get_or (final m bodies ss (take (suc i + d) os)) h None ≡ Some v
    onward zero fits free = let same : suc i + 0 ≡ suc i = omega arith in ap (λ (k : ℕ). get_or (final m bodies ss (take k os)) h None) same ∙ here
    onward (suc d) fits free =
        let l : ℕ = suc i + d in
        let more : suc i + suc d ≡ suc l = omega arith in
        let before = onward d (omega arith) (λ k a b. free k a (omega arith)) in
        ap (λ (k : ℕ). get_or (final m bodies ss (take k os)) h None) more
        ∙ ap (λ (ts : Slate). get_or ts h None) (final_more ss os l (omega arith))
        ∙ value_kept (final m bodies ss (take l os)) (get_or os l owed) h v before (free l (omega arith) (omega arith))

  pub stays : (ss : Slate) (os : List Order) (i j h : ℕ) (v : List ℕ) → BoundAndLeft os (answers m bodies ss os) i j h v → get_or (final m bodies ss (take j os)) h None ≡ Some v
  stays ss os i j h v b =
      let lt : i < length os = omega (arith, b.before, b.within) in
      let said = sym (answer_at m bodies ss os i (owes_now 0 None) lt ∙ ap (answer m bodies (final m bodies ss (take i os))) b.line) ∙ b.was_taken in
      let here = ap (λ (ts : Slate). get_or ts h None) (final_more ss os i lt ∙ ap (next m bodies (final m bodies ss (take i os))) b.line) ∙ value_put (final m bodies ss (take i os)) h v said in
      let is : suc i + (j - suc i) ≡ j = omega (arith, b.before) in
      subst (λ (k : ℕ). get_or (final m bodies ss (take k os)) h None ≡ Some v) is
      (onward ss os i h v here (j - suc i) (omega (arith, b.within, is)) (λ l a c. b.unreleased l a (omega (arith, is))))
