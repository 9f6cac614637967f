-- How bytes are shown.
use Rattle.std.specs.Prelude.{ℕ, ◌/◌, ◌%◌, Bool, false, ◌&&◌, not, ◌==◌, leb, List, [], ◌∷◌, ◌++◌, codes, cond}
use Rattle.std.specs.Fmt.{digit_glyph}
use Rattle.std.specs.List.{flat_map}

-- Printable ASCII but for the quote and the backslash.
abbrev pub is_plain_byte : ℕ → Bool
is_plain_byte b = leb 32 b && leb b 126 && not (b == 34) && not (b == 92)

-- A byte as itself, or as \x and its two hex digits.
abbrev pub shown_byte : ℕ → List ℕ
shown_byte b = cond (is_plain_byte b) (b ∷ []) (codes "\\x" ++ (digit_glyph false (b / 16) ∷ digit_glyph false (b % 16) ∷ []))

abbrev pub quoted : List ℕ → List ℕ
quoted bs = codes "\"" ++ (flat_map shown_byte bs ++ codes "\"")
