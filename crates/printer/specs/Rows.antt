-- What a row and the table of rows hold.
use Rattle.std.specs.Prelude.{ℕ, zero, suc, ◌-◌, Bool, true, ◌&&◌, List, [], ◌∷◌, ◌++◌, length, take, drop, Some, None, Option, ◌==◌, nat_le, slice_index_or}
use Rattle.printer.specs.declared.row.Row.{Row}

-- Shut, so that a row of 160 bytes is not written out.
unfoldable pub zeros : ℕ → List ℕ
zeros zero = []
zeros (suc n) = 0 ∷ zeros n

-- The row of a hole that has a value on it or, with None, is owed: its length, its bytes, and 0 past them.
abbrev pub row_of : Option (List ℕ) → Row
row_of None = record { len = 0; bytes = zeros 160 }
row_of (Some v) = record { len = length v; bytes = v ++ zeros (160 - length v) }

-- n rows with nothing on them
unfoldable pub blank : ℕ → List Row
blank zero = []
blank (suc n) = row_of None ∷ blank n

abbrev pub all_zero : List ℕ → Bool
all_zero [] = true
all_zero (b ∷ bs) = b == 0 && all_zero bs

abbrev pub fits_row : Row → Bool
fits_row r = nat_le r.len 160 && all_zero (drop r.len r.bytes)

-- Each length is at most 160, and each byte past it is 0.
abbrev pub fit : List Row → Bool
fit [] = true
fit (r ∷ rs) = fits_row r && fit rs

-- The bytes that a row holds, and those of the row of a hole, none past the last row.
abbrev pub value_in : Row → List ℕ
value_in r = take r.len r.bytes

abbrev pub value_at : List Row → ℕ → List ℕ
value_at rs k = value_in (slice_index_or rs k (record { len = 0; bytes = [] }))
