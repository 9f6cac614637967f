-- What the rows of the table keep.
use Rattle.std.proofs.Common.{◌≡◌, ℕ, zero, suc, ◌-◌, ◌≤◌, true, List, [], ◌∷◌, ◌++◌, length, get_or, drop, set, replicate, Some, None, refl, ap, ◌∙◌, arith, length-take}
use lib.Seq.{drop-append_seam}
use Rattle.std.proofs.lemmas.Bool.{le-leb, leb-true, and_parts, and_from}
use Rattle.std.proofs.lemmas.List.{drop-replicate}
use Rattle.printer.specs.declared.row.Row.{Row}
use Rattle.printer.specs.Rows.{zeros, row_of, blank, all_zero, fits_row, fit, value_at}

pub zeros_is : (n : ℕ) → replicate n 0 ≡ zeros n
unfolding zeros
zeros_is zero = refl
zeros_is (suc n) = ap (λ (bs : List ℕ). 0 ∷ bs) (zeros_is n)

pub blank_is : (n : ℕ) (r : Row) → r ≡ row_of None → replicate n r ≡ blank n
unfolding blank
blank_is zero r e = refl
blank_is (suc n) r e = ap (λ (x : Row). x ∷ replicate n r) e ∙ ap (λ (rs : List Row). row_of None ∷ rs) (blank_is n r e)

all_zeros : (n : ℕ) → all_zero (zeros n) ≡ true
unfolding zeros
all_zeros zero = refl
all_zeros (suc n) = all_zeros n

pub value_fits : (v : List ℕ) → length v ≤ 160 → fits_row (row_of (Some v)) ≡ true
value_fits v h =
    and_from _ _ (le-leb (length v) 160 h) (ap all_zero (drop-append_seam v (zeros (160 - length v))) ∙ all_zeros (160 - length v))

pub none_fits : fits_row (row_of None) ≡ true
none_fits = all_zeros 160

pub fit_set : (rs : List Row) (i : ℕ) (r : Row) → fit rs ≡ true → fits_row r ≡ true → fit (set rs i r) ≡ true
fit_set [] i r h k = refl
fit_set (x ∷ rs) zero r h k = and_from _ _ k (and_parts (fits_row x) (fit rs) h).1
fit_set (x ∷ rs) (suc i) r h k =
    and_from _ _ (and_parts (fits_row x) (fit rs) h).0 (fit_set rs i r (and_parts (fits_row x) (fit rs) h).1 k)

pub fit_blank : (n : ℕ) → fit (blank n) ≡ true
unfolding blank
fit_blank zero = refl
fit_blank (suc n) = and_from _ _ none_fits (fit_blank n)

-- a value laid over the front of a cleared row
pub laid : (v ys bs : List ℕ) → ys ≡ v → bs ≡ zeros 160 → ys ++ drop (length v) bs ≡ v ++ zeros (160 - length v)
laid v ys bs e z = rw (e, z, ← zeros_is 160, drop-replicate {X = ℕ} (length v) 160 0, zeros_is) refl

pub of_zeros : record { len = 0; bytes = replicate 160 0 } ≡ row_of None
of_zeros = ap (λ (bs : List ℕ). let r : Row = record { len = 0; bytes = bs } in r) (zeros_is 160)

abbrev pub past : Row
past = record { len = 0; bytes = [] }

pub len_fits : (rs : List Row) (k : ℕ) → fit rs ≡ true → (get_or rs k past).len ≤ 160
len_fits [] k h = omega arith
len_fits (r ∷ rs) zero h = leb-true r.len 160 (and_parts _ _ (and_parts (fits_row r) (fit rs) h).0).0
len_fits (r ∷ rs) (suc k) h = len_fits rs k (and_parts (fits_row r) (fit rs) h).1

-- a row has at most 160 bytes
pub value_short : (rs : List Row) (k : ℕ) → fit rs ≡ true → length (value_at rs k) ≤ 160
value_short rs k h = let r : Row = get_or rs k past in omega (arith, length-take r.len r.bytes, len_fits rs k h)
