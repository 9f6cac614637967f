-- How far a row of bytes is without an at-sign.
use Rattle.std.proofs.Common.{◌≡◌, ℕ, zero, suc, ◌+◌, ◌<◌, ◌≤◌, Bool, true, false, ◌||◌, cond, not, List, [], ◌∷◌, length, get_or, take, drop, ◌==◌, refl, ap, ◌∙◌, arith}
use Rattle.std.proofs.lemmas.List.{at_drop_more, at_drop_all}
use Rattle.std.specs.List.{prefix_len}
use Rattle.template.specs.Lexing.{is_plain}

-- one more that is none
pub past_plain : (bs : List ℕ) (i : ℕ) → i < length bs → (get_or bs i 0 == 64) ≡ false → i + prefix_len is_plain (drop i bs) ≡ i + 1 + prefix_len is_plain (drop (i + 1) bs)
past_plain bs i lt e =
    ap (λ (n : ℕ). i + n) (at_drop_more (prefix_len is_plain) bs i 0 lt ∙ ap (λ (t : Bool). cond (not t) (1 + prefix_len is_plain (drop (i + 1) bs)) 0) e) ∙ omega arith

-- none is left
pub all_plain : (bs : List ℕ) (i : ℕ) → length bs ≤ i → prefix_len is_plain (drop i bs) ≡ 0
all_plain bs i le = at_drop_all (prefix_len is_plain) bs i le

-- the first n are none
pub first_plain : (n : ℕ) (bs : List ℕ) → prefix_len is_plain (take n bs) ≡ length (take n bs) → prefix_len is_plain bs ≡ length (take n bs) + prefix_len is_plain (drop n bs)
first_plain zero bs e = omega arith
first_plain (suc n) [] e = refl
first_plain (suc n) (b ∷ bs) e = go (is_plain b) (first_plain n bs) e
  where
    go : (t : Bool) → (prefix_len is_plain (take n bs) ≡ length (take n bs) → prefix_len is_plain bs ≡ length (take n bs) + prefix_len is_plain (drop n bs)) → cond t (1 + prefix_len is_plain (take n bs)) 0 ≡ suc (length (take n bs)) → cond t (1 + prefix_len is_plain bs) 0 ≡ suc (length (take n bs)) + prefix_len is_plain (drop n bs)
    go true more f = let this = more (omega (arith, f)) in omega (arith, this)
    go false more f = absurd (omega (arith, f))

pub neither : (a b : Bool) → (a || b) ≡ false → (a ≡ false) × (b ≡ false)
neither false b e = (refl, e)
neither true b e = cc
