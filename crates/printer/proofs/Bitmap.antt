-- The map of a slate's owed holes: its bits, their count, and the lowest.
use Rattle.std.proofs.Common.{◌≡◌, ℕ, zero, suc, ◌+◌, ◌*◌, ◌/◌, ◌%◌, ◌^◌, ◌<◌, ◌≤◌, Bool, true, false, cond, eqb, List, [], ◌∷◌, length, get_or, set, Some, None, Option, sym, refl, ap, ◌∙◌, ap₂, le_of_suc-le-suc, pow-suc, div-one, one-add, arith}
use native.Mathlib.Nat.{zero-div}
use lib.Count.{ones, ones_step, count_trailing_zeros, under}
use Rattle.std.specs.Option.{option_map}
use Rattle.std.proofs.lemmas.Nat.{shr-shr}
use Rattle.std.proofs.lemmas.Bool.{ne_eqb, false≢true, true≢false}
use Rattle.printer.specs.Slate.{Slate, fresh, owes, owed_at, digit, how_many, lowest}
use Rattle.printer.specs.Held.{owed_map, owed_bit, lowest_bit}

pub digit_lt : (s : Option (List ℕ)) → digit s < 2
digit_lt None = omega arith
digit_lt (Some v) = omega arith

half : (s : Option (List ℕ)) (ss : Slate) → owed_map (s ∷ ss) / 2 ≡ owed_map ss
half s ss = omega (arith, digit_lt s)

odd : (s : Option (List ℕ)) (ss : Slate) → owed_map (s ∷ ss) % 2 ≡ digit s
odd s ss = omega (arith, digit_lt s)

pub map_ones : (ss : Slate) → ones (owed_map ss) ≡ how_many ss
unfolding ones
map_ones [] = refl
map_ones (s ∷ ss) =
    ones_step (owed_map (s ∷ ss)) ∙ ap₂ (λ (x y : ℕ). x + ones y) (odd s ss) (half s ss) ∙ ap (λ (x : ℕ). digit s + x) (map_ones ss)

map_digit : (ss : Slate) (k : ℕ) → owed_map ss / 2 ^ k % 2 ≡ digit (get_or ss k (Some []))
map_digit [] k = ap (λ (x : ℕ). x % 2) (zero-div (2 ^ k))
map_digit (s ∷ ss) zero = ap (λ (x : ℕ). x % 2) (div-one (owed_map (s ∷ ss))) ∙ odd s ss
map_digit (s ∷ ss) (suc k) =
    ap (λ (x : ℕ). owed_map (s ∷ ss) / 2 ^ x % 2) (sym (one-add k))
    ∙ ap (λ (x : ℕ). x % 2) (sym (shr-shr (owed_map (s ∷ ss)) 1 k) ∙ ap (λ (x : ℕ). x / 2 ^ k) (half s ss))
    ∙ map_digit ss k

digit_owes : (s : Option (List ℕ)) → eqb (digit s) 1 ≡ owes s
digit_owes None = refl
digit_owes (Some v) = refl

pub map_bit : (ss : Slate) (k : ℕ) → owed_bit (owed_map ss) k ≡ owed_at ss k
map_bit ss k = ap (λ (x : ℕ). eqb x 1) (map_digit ss k) ∙ digit_owes (get_or ss k (Some []))

-- a value takes the hole's bit off, and a release puts it on
pub map_fill : (ss : Slate) (k : ℕ) (v : List ℕ) → owed_at ss k ≡ true → owed_map (set ss k (Some v)) + 2 ^ k ≡ owed_map ss
map_fill [] k v h = absurd (false≢true h)
map_fill (None ∷ ss) zero v h = omega arith
map_fill (Some w ∷ ss) zero v h = absurd (false≢true h)
map_fill (s ∷ ss) (suc k) v h = omega (arith, map_fill ss k v h, pow-suc 2 k)

pub map_free : (ss : Slate) (k : ℕ) → owed_at ss k ≡ false → k < length ss → owed_map (set ss k None) ≡ owed_map ss + 2 ^ k
map_free [] k h l = absurd (omega arith)
map_free (None ∷ ss) zero h l = absurd (true≢false h)
map_free (Some w ∷ ss) zero h l = omega arith
map_free (s ∷ ss) (suc k) h l = omega (arith, map_free ss k h (le_of_suc-le-suc l), pow-suc 2 k)

low : ℕ → ℕ → Option ℕ
low w n = cond (eqb n 0) None (Some (count_trailing_zeros w n))

low_suc : (b : Bool) (t : ℕ) → cond b None (Some (suc t)) ≡ option_map suc (cond b None (Some t))
low_suc true t = refl
low_suc false t = refl

twice_zero : (n : ℕ) → eqb (n * 2 + 0) 0 ≡ eqb n 0
twice_zero zero = refl
twice_zero (suc n) = ne_eqb (suc n * 2 + 0) 0 (λ e. omega arith) ∙ sym (ne_eqb (suc n) 0 (λ e. omega arith))

map_low : (w : ℕ) (ss : Slate) → length ss ≤ w → low w (owed_map ss) ≡ lowest ss
unfolding low count_trailing_zeros
map_low w [] l = refl
map_low zero (s ∷ ss) l = absurd (omega arith)
map_low (suc w) (None ∷ ss) l =
    ap (λ (b : Bool). cond b None (Some (count_trailing_zeros (suc w) (owed_map ss * 2 + 1)))) (ne_eqb (owed_map ss * 2 + 1) 0 (λ e. omega arith))
    ∙ ap (λ (x : ℕ). Some (under x (count_trailing_zeros w ((owed_map ss * 2 + 1) / 2)))) (odd None ss)
map_low (suc w) (Some v ∷ ss) l =
    ap (λ (b : Bool). cond b None (Some (count_trailing_zeros (suc w) (owed_map ss * 2 + 0)))) (twice_zero (owed_map ss))
    ∙ ap₂ (λ (x y : ℕ). cond (eqb (owed_map ss) 0) None (Some (under x (count_trailing_zeros w y)))) (odd (Some v) ss) (half (Some v) ss)
    ∙ low_suc (eqb (owed_map ss) 0) (count_trailing_zeros w (owed_map ss))
    ∙ ap (option_map suc) (map_low w ss (le_of_suc-le-suc l))

pub map_lowest : (ss : Slate) → length ss ≤ 64 → lowest_bit (owed_map ss) ≡ lowest ss
unfolding low
map_lowest ss l = map_low 64 ss l

pub map_fresh : (n : ℕ) → owed_map (fresh n) + 1 ≡ 2 ^ n
map_fresh zero = refl
map_fresh (suc n) = omega (arith, map_fresh n, pow-suc 2 n)
