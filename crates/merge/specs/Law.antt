-- What a merged text reads as.
use Rattle.std.specs.Prelude.{◌≡◌, ℕ, zero, suc, ◌+◌, List, [], ◌∷◌, length, Some, None, Ok, Err, All, Option, Result, ◌≢◌}
use Rattle.std.specs.List.{flat_map}
use Rattle.host.specs.Meaning.{Meaning}
use Rattle.fault.specs.declared.fault.Fault.{Fault}
use Rattle.template.specs.Items.{names}
use Rattle.record.specs.Answers.{value_of}
use Rattle.record.specs.Format.{Pair, packed, Good, Stands}
use Rattle.printer.specs.Printing.{ReadsBack}
use Rattle.printer.specs.Slate.{value_or_none}
use Rattle.merge.specs.declared.merged.Merged.{Merged}

-- The value of hole k: the record's value of the hole's name. The names are those of the holes in order.
abbrev pub named_value : List Pair → List (List ℕ) → ℕ → List ℕ
named_value ps [] k = []
named_value ps (n ∷ ns) zero = value_or_none (value_of n ps)
named_value ps (n ∷ ns) (suc k) = named_value ps ns k

-- A good record stands at the place in written form, and the next place is the one after it; it has a value of each hole's name; and the text
-- w reads under the host as the template's plan, each mark replaced by the record's value of that hole's name.
pub record ReadsAsRecord (m : Meaning) (t input : List ℕ) (place next : ℕ) (w : List ℕ) : Type 0 where
  pub pairs : List Pair
  pub good : Good pairs
  pub stands : Stands pairs input place
  pub after : next ≡ place + length (packed pairs)
  pub each_named : All (λ n. value_of n pairs ≢ None) (names t)
  pub reads : ReadsBack m (named_value pairs (names t)) t w

-- P of what was merged, if anything was.
abbrev pub WhereMerged : Result (Option Merged) Fault → (Merged → Type 0) → Type 0
WhereMerged (Ok (Some x)) P = P x
WhereMerged (Ok None) P = Unit {0}
WhereMerged (Err f) P = Unit {0}

-- Texts one after another, from a place of the input to a place after their records: each reads as the record that stands where the one before
-- it ended.
abbrev pub ReadInARow : Meaning → List ℕ → List ℕ → ℕ → ℕ → List (List ℕ) → Type 0
ReadInARow m t input place next [] = place ≡ next
ReadInARow m t input place next (w ∷ ws) = (n : ℕ) × ReadsAsRecord m t input place n w × ReadInARow m t input n next ws

-- What several merges have written: so many texts, in a row from one place to the other.
pub record ReadsAsRecords (m : Meaning) (t input : List ℕ) (place next count : ℕ) (w : List ℕ) : Type 0 where
  pub texts : List (List ℕ)
  pub as_many : length texts ≡ count
  pub whole : flat_map (λ v. v) texts ≡ w
  pub in_a_row : ReadInARow m t input place next texts
