-- A table of borrowed values stands for the rows into which they would be copied.
use Rattle.std.proofs.Common.{◌≡◌, ℕ, zero, suc, ◌+◌, ◌-◌, ◌<◌, ◌≤◌, List, [], ◌∷◌, length, get_or, drop, set, replicate, Some, None, sym, refl, ap, ◌∙◌, arith}
use lib.Seq.{map-set, take-append_seam}
use Rattle.std.proofs.lemmas.List.{drop-drop, drop-map, drop-replicate, drop-set, drop-set-lt}
use Rattle.printer.specs.declared.borrowed.BorrowedRow.{BorrowedRow}
use Rattle.printer.specs.declared.row.Row.{Row}
use Rattle.printer.specs.Borrowed.{rows_in}
use Rattle.printer.specs.Rows.{zeros, row_of, blank, value_in, value_at}
use Rattle.printer.proofs.Laid.{blank_is}

-- rows that hold nothing
pub none_held : (n : ℕ) (r : BorrowedRow) → r.value.now ≡ [] → rows_in (replicate n r) ≡ blank n
unfolding blank
none_held zero r e = refl
none_held (suc n) r e = ap (λ (v : List ℕ). row_of (Some v) ∷ rows_in (replicate n r)) e ∙ ap (λ (rs : List Row). row_of (Some []) ∷ rs) (none_held n r e)

pub stored_in : (rs : List BorrowedRow) (k : ℕ) (r : BorrowedRow) → rows_in (set rs k r) ≡ set (rows_in rs) k (row_of (Some r.value.now))
stored_in rs k r = map-set (λ (x : BorrowedRow). row_of (Some x.value.now)) rs k r

pub held : (v : List ℕ) → value_in (row_of (Some v)) ≡ v
held v = take-append_seam v (zeros (160 - length v))

-- the value of a row that is looked up
pub found_at : (rs : List BorrowedRow) (k : ℕ) (r : BorrowedRow) → k < length rs → ((d : BorrowedRow) → r ≡ get_or rs k d) → value_at (rows_in rs) k ≡ r.value.now
found_at [] k r h e = absurd (omega arith)
found_at (x ∷ rs) zero r h e = held x.value.now ∙ ap (λ (y : BorrowedRow). y.value.now) (sym (e r))
found_at (x ∷ rs) (suc k) r h e = found_at rs k r (omega arith) e

blank_fewer : (n m : ℕ) → drop n (blank m) ≡ blank (m - n)
blank_fewer n m = ap (drop n) (sym (blank_is m (row_of None) refl)) ∙ drop-replicate n m (row_of None) ∙ blank_is (m - n) (row_of None) refl

blank_more : (n : ℕ) → row_of (Some []) ∷ blank n ≡ blank (suc n)
unfolding blank
blank_more n = refl

-- rows that are used from further on
pub rest_further : (rs : List BorrowedRow) (u v : ℕ) → u ≤ v → rows_in (drop u rs) ≡ blank (64 - u) → rows_in (drop v rs) ≡ blank (64 - v)
rest_further rs u v le e =
    let far : u + (v - u) ≡ v = omega arith in
    let left : 64 - u - (v - u) ≡ 64 - v = omega arith in
    let more : drop (v - u) (drop u rs) ≡ drop v rs = drop-drop (v - u) u rs ∙ ap (λ (k : ℕ). drop k rs) far in
    ap rows_in (sym more) ∙ sym (drop-map _ (v - u) (drop u rs)) ∙ ap (drop (v - u)) e ∙ blank_fewer (v - u) (64 - u) ∙ ap blank left

-- a value that is stored among them
pub rest_stored : (rs : List BorrowedRow) (u k : ℕ) (r : BorrowedRow) → k < u → rows_in (drop u rs) ≡ blank (64 - u) → rows_in (drop u (set rs k r)) ≡ blank (64 - u)
rest_stored rs u k r lt e = ap rows_in (drop-set-lt u rs k r lt) ∙ e

-- the last of them is wiped
pub rest_wiped : (rs : List BorrowedRow) (u : ℕ) (r : BorrowedRow) → 0 < u → u ≤ length rs → u ≤ 64 → r.value.now ≡ [] → rows_in (drop u rs) ≡ blank (64 - u) → rows_in (drop (u - 1) (set rs (u - 1) r)) ≡ blank (64 - (u - 1))
rest_wiped rs u r some in_it few none e =
    let one : u - 1 + 1 ≡ u = omega arith in
    let size : suc (64 - u) ≡ 64 - (u - 1) = omega arith in
    ap rows_in (drop-set rs (u - 1) r (omega arith) ∙ ap (λ (k : ℕ). r ∷ drop k rs) one) ∙ ap (λ (v : List ℕ). row_of (Some v) ∷ rows_in (drop u rs)) none ∙ ap (λ (ys : List Row). row_of (Some []) ∷ ys) e ∙ blank_more (64 - u) ∙ ap blank size
