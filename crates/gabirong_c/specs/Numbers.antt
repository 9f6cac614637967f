-- Answers in plain numbers.
use Rattle.std.specs.Prelude.{ℕ, true, false, List, is_some, Some, None, Ok, Err, Option, Result}
use Rattle.std.specs.Option.{option_map_or}
use Rattle.fault.specs.Refusal as fault
use Rattle.gabirong_c.specs.declared.numbers.Refusal.{Refusal}
use Rattle.gabirong_c.specs.declared.numbers.Checked.{Checked}
use Rattle.gabirong_c.specs.declared.numbers.Listed.{Listed}
use Rattle.gabirong_c.specs.declared.numbers.Merged.{Merged}
use Rattle.gabirong_c.specs.declared.numbers.Merges.{Merges}

-- A refusal: the hole is 0 where none is named, and so are number and place of what is carried where nothing is.
abbrev pub in_numbers : fault.Refusal → Refusal
in_numbers r = record { number = r.number; names_hole = is_some r.hole; hole = option_map_or (λ k. k) r.hole 0; place = r.place; carried = option_map_or (λ f. f.number) r.carried 0; carried_place = option_map_or (λ f. f.place) r.carried 0 }

-- No refusal has number 0.
abbrev pub no_refusal : Refusal
no_refusal = record { number = 0; names_hole = false; hole = 0; place = 0; carried = 0; carried_place = 0 }

abbrev pub checked_in_numbers : Result (List ℕ × ℕ) fault.Refusal → Checked
checked_in_numbers (Ok x) = record { refusal = no_refusal; holes = x.1 }
checked_in_numbers (Err r) = record { refusal = in_numbers r; holes = 0 }

abbrev pub listed_in_numbers : Result ℕ fault.Refusal → Listed
listed_in_numbers (Ok n) = record { refusal = no_refusal; len = n }
listed_in_numbers (Err r) = record { refusal = in_numbers r; len = 0 }

-- The next place and the length of the text, or none at the input's end.
abbrev pub merged_in_numbers : Result (Option (ℕ × ℕ)) fault.Refusal → Merged
merged_in_numbers (Ok (Some x)) = record { refusal = no_refusal; found = true; next = x.0; len = x.1 }
merged_in_numbers (Ok None) = record { refusal = no_refusal; found = false; next = 0; len = 0 }
merged_in_numbers (Err r) = record { refusal = in_numbers r; found = false; next = 0; len = 0 }

-- How many records, the next place and the length of the texts, and the refusal that stopped them, if one did.
abbrev pub merges_in_numbers : ℕ × ℕ × ℕ × Option fault.Refusal → Merges
merges_in_numbers x = record { refusal = option_map_or in_numbers x.3 no_refusal; count = x.0; next = x.1; len = x.2 }
