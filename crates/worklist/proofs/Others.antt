-- Two lists that differ only in values sent to hole k: what they answer and leave at the other holes.
use Rattle.std.proofs.Common.{◌≡◌, ℕ, zero, suc, ◌<◌, Bool, true, not, eqb, List, [], length, get_or, set, Some, None, Option, sym, refl, ap, ◌∙◌, subst, ap₂, inl, inr, le_of_suc-le-suc, arith, length-set, get_or-set_other, get_or-set_same}
use Rattle.std.proofs.lemmas.Bool.{false≢true, not-true, eq-eqb, cases_eq}
use Rattle.host.specs.Meaning.{Meaning}
use Rattle.fault.specs.Refusal.{Refusal}
use Rattle.printer.specs.Slate.{Slate, owes, owed_at, judge_bind_lem, judge_release_lem, settled, verdict_bind, verdict_release, bound, released}
use Rattle.worklist.specs.Lines.{taken, Order, bind, release, owed, reply, answer, next, answers, final}
use Rattle.worklist.specs.Promise.{AlikeBut, done, same, sent, on_other}
use Rattle.worklist.proofs.Slates.{bind_taken}

-- The slates have the same holes, and agree at each but k.
pub record Agree (k : ℕ) (ss ts : Slate) : Type 0 where
  pub as_long : length ss ≡ length ts
  pub at : (j : ℕ) (d : Option (List ℕ)) → (j ≡ k → ⊥) → get_or ss j d ≡ get_or ts j d

pub agree_refl : (k : ℕ) (ss : Slate) → Agree k ss ss
agree_refl k ss = record { as_long = refl; at = λ j d ne. refl }

release_taken : (n : ℕ) (b : Bool) (h : ℕ) → judge_release_lem n b h ≡ None → h < n
release_taken n b h e = grind arith

module _ (k : ℕ) (ss ts : Slate) (a : Agree k ss ts) where
  -- one of them changes at k
  first_at_k : (j : Option Refusal) (x : Option (List ℕ)) → Agree k (settled j (set ss k x) ss) ts
  first_at_k None x = record { as_long = length-set ss k x ∙ a.as_long; at = λ i d ne. get_or-set_other ss k i x d ne ∙ a.at i d ne }
  first_at_k (Some e) x = a

  second_at_k : (j : Option Refusal) (x : Option (List ℕ)) → Agree k ss (settled j (set ts k x) ts)
  second_at_k None x = record { as_long = a.as_long ∙ sym (length-set ts k x); at = λ i d ne. a.at i d ne ∙ sym (get_or-set_other ts k i x d ne) }
  second_at_k (Some e) x = a

  -- both change alike
  both_at : (h : ℕ) (x : Option (List ℕ)) → h < length ss → Agree k (set ss h x) (set ts h x)
  both_at h x lt = record {
    as_long = length-set ss h x ∙ a.as_long ∙ sym (length-set ts h x);
    at = λ i d ne.
        elim (cases_eq i h) [
          | inl e ↦ subst (λ (n : ℕ). get_or (set ss h x) n d ≡ get_or (set ts h x) n d) (sym e) (get_or-set_same ss h x d lt ∙ sym (get_or-set_same ts h x d (omega (arith, a.as_long))))
          | inr no_h ↦ get_or-set_other ss h i x d no_h ∙ a.at i d ne ∙ sym (get_or-set_other ts h i x d no_h)
        ];
  }

  both_settled : (j : Option Refusal) (h : ℕ) (x : Option (List ℕ)) → (j ≡ None → h < length ss) → Agree k (settled j (set ss h x) ss) (settled j (set ts h x) ts)
  both_settled None h x lt = both_at h x (lt refl)
  both_settled (Some e) h x lt = a

both_at_k : (k : ℕ) (ss ts : Slate) → Agree k ss ts → (i j : Option Refusal) (x y : Option (List ℕ)) → Agree k (settled i (set ss k x) ss) (settled j (set ts k y) ts)
both_at_k k ss ts a i j x y = second_at_k k (settled i (set ss k x) ss) ts (first_at_k k ss ts a i x) j y

module _ (m : Meaning) (bodies : List ℕ) (k : ℕ) where
  -- what one line does to slates that agree: it answers alike if it is on another hole, and they agree after it
  record Stays (ss ts : Slate) (o p : Order) : Type 0 where
    on : on_other k o ≡ on_other k p
    says : on_other k o ≡ true → answer m bodies ss o ≡ answer m bodies ts p
    leaves : Agree k (next m bodies ss o) (next m bodies ts p)

  not_k : {A : Type 0} → not (eqb k k) ≡ true → A
  not_k e = absurd (false≢true (sym (not-true (eqb k k) e) ∙ eq-eqb k k refl))

  sent_stays : (ss ts : Slate) (v w : List ℕ) → Agree k ss ts → Stays ss ts (bind k v) (bind k w)
  sent_stays ss ts v w a = record {
    on = refl;
    says = λ e. not_k e;
    leaves = both_at_k k ss ts a (verdict_bind m bodies ss k v) (verdict_bind m bodies ts k w) (Some v) (Some w);
  }

  released_stays : (ss ts : Slate) → Agree k ss ts → Stays ss ts (release k) (release k)
  released_stays ss ts a = record {
    on = refl;
    says = λ e. not_k e;
    leaves = both_at_k k ss ts a (verdict_release ss k) (verdict_release ts k) None None;
  }

  bind_stays : (ss ts : Slate) (h : ℕ) (v : List ℕ) → (h ≡ k → ⊥) → Agree k ss ts → Stays ss ts (bind h v) (bind h v)
  bind_stays ss ts h v ne a =
      let alike : verdict_bind m bodies ss h v ≡ verdict_bind m bodies ts h v = ap₂ (λ (n : ℕ) (b : Bool). judge_bind_lem m bodies n b h v) a.as_long (ap owes (a.at h (Some []) ne)) in
      record {
        on = refl;
        says = λ _. ap reply alike;
        leaves =
            subst (λ j. Agree k (bound m bodies ss h v) (settled j (set ts h (Some v)) ts)) alike
            (both_settled k ss ts a (verdict_bind m bodies ss h v) h (Some v) (λ e. (bind_taken m bodies (length ss) (owed_at ss h) h v e).0));
      }

  release_stays : (ss ts : Slate) (h : ℕ) → (h ≡ k → ⊥) → Agree k ss ts → Stays ss ts (release h) (release h)
  release_stays ss ts h ne a =
      let alike : verdict_release ss h ≡ verdict_release ts h = ap₂ (λ (n : ℕ) (b : Bool). judge_release_lem n b h) a.as_long (ap owes (a.at h (Some []) ne)) in
      record {
        on = refl;
        says = λ _. ap reply alike;
        leaves =
            subst (λ j. Agree k (released ss h) (settled j (set ts h None) ts)) alike
            (both_settled k ss ts a (verdict_release ss h) h None (λ e. release_taken (length ss) (owed_at ss h) h e));
      }

  stays : (ss ts : Slate) (o : Order) → Agree k ss ts → Stays ss ts o o
  stays ss ts (bind h v) a =
      elim (cases_eq h k) [
        | inl e ↦ subst (λ n. Stays ss ts (bind n v) (bind n v)) (sym e) (sent_stays ss ts v v a)
        | inr ne ↦ bind_stays ss ts h v ne a
      ]
  stays ss ts (release h) a =
      elim (cases_eq h k) [
        | inl e ↦ subst (λ n. Stays ss ts (release n) (release n)) (sym e) (released_stays ss ts a)
        | inr ne ↦ release_stays ss ts h ne a
      ]
  stays ss ts owed a = record { on = refl; says = λ e. absurd (false≢true e); leaves = a }

  pub others_alike : {os ps : List Order} → AlikeBut k os ps → (ss ts : Slate) → Agree k ss ts → (i : ℕ) → i < length os → on_other k (get_or os i owed) ≡ true → get_or (answers m bodies ss os) i taken ≡ get_or (answers m bodies ts ps) i taken
  others_alike done ss ts a i lt on = absurd (omega arith)
  others_alike (same o more) ss ts a zero lt on = (stays ss ts o a).says on
  others_alike (same o more) ss ts a (suc i) lt on = others_alike more (next m bodies ss o) (next m bodies ts o) (stays ss ts o a).leaves i (le_of_suc-le-suc lt) on
  others_alike (sent v w more) ss ts a zero lt on = (sent_stays ss ts v w a).says on
  others_alike (sent v w more) ss ts a (suc i) lt on = others_alike more (next m bodies ss (bind k v)) (next m bodies ts (bind k w)) (sent_stays ss ts v w a).leaves i (le_of_suc-le-suc lt) on

  pub final_agree : {os ps : List Order} → AlikeBut k os ps → (ss ts : Slate) → Agree k ss ts → Agree k (final m bodies ss os) (final m bodies ts ps)
  final_agree done ss ts a = a
  final_agree (same o more) ss ts a = final_agree more (next m bodies ss o) (next m bodies ts o) (stays ss ts o a).leaves
  final_agree (sent v w more) ss ts a = final_agree more (next m bodies ss (bind k v)) (next m bodies ts (bind k w)) (sent_stays ss ts v w a).leaves
