-- The listing of a text, computed: words of kind 1 between spaces, where 0 is refused, and 9 is a token of kind 2 by itself. Assumes nothing.
use Rattle.std.proofs.Common.{◌≡◌, ℕ, zero, suc, cond, eqb, List, [], ◌∷◌, Some, None, Ok, Err, Option, refl}
use Rattle.host.specs.declared.effect.Effect.{Effect}
use Rattle.host.specs.declared.effect.Middle.TheVariants.{Nothing, Keep}
use Rattle.host.specs.Meaning.{Meaning}
use Rattle.fault.specs.Refusal.{plain}
use Rattle.reading.specs.Listing.{listing, answer_of, output}

abbrev still : Effect
still = record { first = None; middle = Nothing; last = None }

abbrev adds : ℕ → Effect
adds b = record { first = None; middle = Keep b; last = None }

abbrev closes : Effect
closes = record { first = Some 1; middle = Nothing; last = None }

abbrev alone : Option ℕ → ℕ → Effect
alone first b = record { first = first; middle = Keep b; last = Some 2 }

abbrev step : ℕ → ℕ → Option (ℕ × Effect)
step zero b = cond (eqb b 0) None (cond (eqb b 32) (Some (0, still)) (cond (eqb b 9) (Some (0, alone None b)) (Some (1, adds b))))
step (suc c) b = cond (eqb b 0) None (cond (eqb b 32) (Some (0, closes)) (cond (eqb b 9) (Some (0, alone (Some 1) b)) (Some (1, adds b))))

abbrev end : ℕ → Option Effect
end zero = Some still
end (suc c) = Some closes

abbrev words : Meaning
words = record { contexts = 2; is_open = eqb 1; step = step; end = end; recipe = λ _. None; spelling = λ _ _. None }

abbrev text : List ℕ
text = 97 ∷ 98 ∷ 9 ∷ 32 ∷ 99 ∷ []

abbrev out : List ℕ
out = 7 ∷ 7 ∷ 7 ∷ 7 ∷ 7 ∷ 7 ∷ 7 ∷ 7 ∷ 7 ∷ 7 ∷ 7 ∷ 7 ∷ 7 ∷ 8 ∷ []

listed : answer_of (listing words text 14) ≡ Ok 13
listed = refl

written : output (listing words text 14) out ≡ 1 ∷ 0 ∷ 2 ∷ 97 ∷ 98 ∷ 2 ∷ 0 ∷ 1 ∷ 9 ∷ 1 ∷ 0 ∷ 1 ∷ 99 ∷ 8 ∷ []
written = refl

short : answer_of (listing words text 12) ≡ Err (plain 17 13)
short = refl

refused : answer_of (listing words (97 ∷ 0 ∷ []) 14) ≡ Err (plain 19 1)
refused = refl
