-- What is printed is the text of the items.
use Rattle.std.proofs.Common.{◌≡◌, ℕ, suc, ◌+◌, List, [], ◌∷◌, ◌++◌, Some, None, Ok, Err, Option, Result, sym, refl, ap, ◌∙◌, add-one}
use Rattle.std.specs.Result.{result_ok}
use Rattle.host.specs.Meaning.{Meaning, Brackets, chain}
use Rattle.host.specs.Run.{Item, literal, hole as gap, State, enter, apply, run_hole, spelled, text}
use Rattle.fault.specs.Refusal.{Refusal}
use Rattle.template.specs.Lexing.{Lexed, byte, hole, end, fault}
use Rattle.template.specs.Judging.{decide, crossing}
use Rattle.printer.specs.Passes.{flawed, and_then, spelt_out, prints}
use Rattle.printer.specs.Printing.{turned, after}
use Rattle.template.proofs.Reading.{items_of, nothing, the_same, chain_some}
use Rattle.template.proofs.Plans.{over, beyond, place_of, crosses}

okay_after : {A B : Type 0} (f : A → B) (x : Result A Refusal) → result_ok (after f x) ≡ chain (result_ok x) (λ y. Some (f y))
okay_after f (Ok x) = refl
okay_after f (Err r) = refl

spelled_as : (m : Meaning) (c k i : ℕ) (bs : List ℕ) → result_ok (spelt_out m c k i bs) ≡ spelled m c bs
spelled_as m c k i [] = refl
spelled_as m c k i (b ∷ bs) =
    elim (m.spelling c b) as (λ o. result_ok (decide o (Err (turned k i)) (λ s. after (λ t. s ++ t) (spelt_out m c k (i + 1) bs))) ≡ chain o (λ s. chain (spelled m c bs) (λ t. Some (s ++ t)))) [
      | None ↦ refl
      | Some s ↦ okay_after (λ t. s ++ t) (spelt_out m c k (i + 1) bs) ∙ ap (λ o. chain o (λ t. Some (s ++ t))) (spelled_as m c k (i + 1) bs)
    ]

module _ (m : Meaning) (v : ℕ → List ℕ) where
  -- a hole, by what its host answers
  hole_as : (p k : ℕ) (rest : Lexed) (is : List Item) (s : State) → ((t : State) → result_ok (prints m v rest (k + 1) t.context) ≡ text m v is (suc k) t) → result_ok (prints m v (hole p [] rest) k s.context) ≡ text m v (gap ∷ is) k s
  hole_as p k rest is s ih = go (m.recipe s.context) refl
    where
      F : Brackets → List ℕ → List ℕ → List ℕ
      F r w bs = r.opener ++ (w ++ (r.closer ++ bs))

      inner : (r : Brackets) (w : List ℕ) (o : Option (ℕ × ℕ)) (q : Option State) → over place_of q ≡ over beyond o → result_ok (decide o (Err (flawed 7 p)) (λ x. after (F r w) (prints m v rest (k + 1) x.1))) ≡ chain q (λ t. chain (text m v is (suc k) t) (λ bs. Some (F r w bs)))
      inner r w None None e = refl
      inner r w None (Some t) e = absurd (nothing (sym e))
      inner r w (Some x) None e = absurd (nothing e)
      inner r w (Some x) (Some t) e =
          okay_after (F r w) (prints m v rest (k + 1) x.1) ∙ ap (λ c. chain (result_ok (prints m v rest (k + 1) c)) (λ bs. Some (F r w bs))) (sym (the_same e)) ∙ ap (λ o. chain o (λ bs. Some (F r w bs))) (ih t)

      refusing : (r : Brackets) (q : Refusal) (o : Option (ℕ × ℕ)) → result_ok (decide o (Err (flawed 7 p)) (λ x. and_then (Err q) (λ w. after (F r w) (prints m v rest (k + 1) x.1)))) ≡ None
      refusing r q None = refl
      refusing r q (Some x) = refl

      spell : (r : Brackets) (y : Result (List ℕ) Refusal) → result_ok (decide (crossing m s.context) (Err (flawed 7 p)) (λ x. and_then y (λ w. after (F r w) (prints m v rest (k + 1) x.1)))) ≡ chain (result_ok y) (λ w. chain (run_hole m k s) (λ t. chain (text m v is (suc k) t) (λ bs. Some (F r w bs))))
      spell r (Ok w) = inner r w (crossing m s.context) (run_hole m k s) (crosses m k s)
      spell r (Err q) = refusing r q (crossing m s.context)

      go : (o : Option Brackets) → m.recipe s.context ≡ o → result_ok (decide (m.recipe s.context) (Err (flawed 7 p)) (λ r. decide (crossing m s.context) (Err (flawed 7 p)) (λ x. and_then (spelt_out m r.body k 0 (v k)) (λ w. after (F r w) (prints m v rest (k + 1) x.1))))) ≡ chain (m.recipe s.context) (λ r. chain (spelled m r.body (v k)) (λ w. chain (run_hole m k s) (λ t. chain (text m v is (suc k) t) (λ bs. Some (F r w bs)))))
      go None e = rw e refl
      go (Some r) e =
          ap (λ o. result_ok (decide o (Err (flawed 7 p)) (λ r. decide (crossing m s.context) (Err (flawed 7 p)) (λ x. and_then (spelt_out m r.body k 0 (v k)) (λ w. after (F r w) (prints m v rest (k + 1) x.1)))))) e
          ∙ spell r (spelt_out m r.body k 0 (v k))
          ∙ rw (spelled_as m r.body k 0 (v k), e) refl

  pub texts : (l : Lexed) (is : List Item) (k : ℕ) (s : State) → items_of l ≡ Some is → result_ok (prints m v l k s.context) ≡ text m v is k s
  texts (byte p b rest) is k s e =
      let r = chain_some (λ js. literal b ∷ js) (items_of rest) is e in
      (elim (m.step s.context b) as (λ o. result_ok (decide o (Err (flawed 6 p)) (λ u. after (λ t. b ∷ t) (prints m v rest k u.0))) ≡ chain (chain o (λ u. Some (enter u.0 (apply u.1 s)))) (λ t. chain (text m v r.0 k t) (λ bs. Some (b ∷ bs)))) [
        | None ↦ refl
        | Some u ↦ okay_after (λ t. b ∷ t) (prints m v rest k u.0) ∙ ap (λ o. chain o (λ bs. Some (b ∷ bs))) (texts rest r.0 k (enter u.0 (apply u.1 s)) r.1)
      ]) ∙ ap (λ js. text m v js k s) r.2
  texts (hole p n rest) is k s e =
      let r = chain_some (λ js. gap ∷ js) (items_of rest) is e in
      hole_as p k rest r.0 s (λ t. ap (λ j. result_ok (prints m v rest j t.context)) (add-one k) ∙ texts rest r.0 (suc k) t r.1) ∙ ap (λ js. text m v js k s) r.2
  texts (end p) is k s e = ap (λ js. text m v js k s) (the_same e)
  texts (fault r) is k s e = absurd (nothing e)
