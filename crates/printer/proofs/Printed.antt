-- What is printed of a hole.
use Rattle.std.proofs.Common.{◌≡◌, ℕ, ◌+◌, Bool, true, false, List, ◌++◌, Some, None, Option, sym, refl, ◌∙◌}
use Rattle.std.proofs.lemmas.Bool.{cond-true, cond-false}
use Rattle.host.specs.Meaning.{Meaning, Brackets, chain}
use Rattle.host.specs.declared.effect.Recipe.{Recipe}
use Rattle.host.specs.Answers.{recipe_of, brackets_of}
use Rattle.template.specs.Judging.{reach, crossing}
use Rattle.template.specs.Lexing.{Lexed, hole}
use Rattle.template.proofs.Reading.{nothing}
use Rattle.printer.specs.Passes.{and_then, spelt_out, prints}
use Rattle.printer.specs.Printing.{after}

module _ (m : Meaning) (v : ℕ → List ℕ) (rest : Lexed) (p k c : ℕ) where
  takes : (r : Recipe) (x : ℕ × ℕ) → recipe_of r ≡ m.recipe c → crossing m c ≡ Some x → m.recipe c ≡ Some (brackets_of r)
  takes r x e f = go r.takes refl
    where
      none : (o : Option Brackets) → chain o (λ b. chain (reach m c b.opener) (λ d. chain (reach m d b.closer) (λ y. Some (b.body, y)))) ≡ Some x → o ≡ None → ⊥
      none None g h = nothing g
      none (Some b) g h = nothing (sym h)

      go : (t : Bool) → r.takes ≡ t → m.recipe c ≡ Some (brackets_of r)
      go true h = sym e ∙ cond-true r.takes (Some (brackets_of r)) None h
      go false h = absurd (none (m.recipe c) f (sym e ∙ cond-false r.takes (Some (brackets_of r)) None h))

  pub prints_hole : (n : List ℕ) (r : Recipe) (x : ℕ × ℕ) → recipe_of r ≡ m.recipe c → crossing m c ≡ Some x → prints m v (hole p n rest) k c ≡ and_then (spelt_out m r.body k 0 (v k)) (λ w. after (λ t. (brackets_of r).opener ++ (w ++ ((brackets_of r).closer ++ t))) (prints m v rest (k + 1) x.1))
  prints_hole n r x e f = rw (f, takes r x e f) refl
