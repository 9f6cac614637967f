-- The tokens of a template's plan, and how the code's tokens tell them.
use Rattle.std.specs.Prelude.{◌≡◌, ℕ, List, map, Some, vec_items}
use Rattle.host.specs.Meaning.{Meaning}
use Rattle.host.specs.Run as runs
use Rattle.host.specs.Run.{plan}
use Rattle.template.specs.Notation.{Piece, item}
use Rattle.template.specs.Law.{Written}
use Rattle.outline.specs.declared.token.Symbol.{Symbol}
use Rattle.outline.specs.declared.token.Symbol.TheVariants.{Byte, Mark}
use Rattle.outline.specs.declared.token.Token.{Token}

abbrev pub symbol_of : Symbol → runs.Symbol
symbol_of (Byte b) = runs.byte b
symbol_of (Mark k) = runs.mark k

abbrev pub token_of : Token → runs.Token
token_of t = record { kind = t.kind; value = map symbol_of (vec_items t.value) }

-- The tokens are those of the plan of the pieces that the template is the written form of.
abbrev pub Planned : Meaning → List ℕ → List Token → Type 0
Planned m t ts = (ps : List Piece) → Written t ps → plan m (map item ps) ≡ Some (map token_of ts)
