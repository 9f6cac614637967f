-- The items of a template, the literal bytes and the holes that its text is printed from, and the names of its holes.
use Rattle.std.specs.Prelude.{◌≡◌, ℕ, List, [], ◌∷◌, map}
use Rattle.host.specs.Run.{Item, literal, hole as gap}
use Rattle.template.specs.Notation.{Piece, itself, escape, named, item}
use Rattle.template.specs.Law.{Written}
use Rattle.template.specs.Lexing.{Lexed, byte, hole, end, fault, lexed_from}

abbrev pub items_in : Lexed → List Item
items_in (byte p b rest) = literal b ∷ items_in rest
items_in (hole p n rest) = gap ∷ items_in rest
items_in (end p) = []
items_in (fault r) = []

-- the items of a template as it is read, up to a fault of notation
abbrev pub items : List ℕ → List Item
items t = items_in (lexed_from t 0)

-- The names of its holes, in order.
abbrev pub names_in : Lexed → List (List ℕ)
names_in (byte p b rest) = names_in rest
names_in (hole p n rest) = n ∷ names_in rest
names_in (end p) = []
names_in (fault r) = []

abbrev pub names : List ℕ → List (List ℕ)
names t = names_in (lexed_from t 0)

abbrev pub names_of : List Piece → List (List ℕ)
names_of [] = []
names_of (itself b ∷ ps) = names_of ps
names_of (escape e ∷ ps) = names_of ps
names_of (named n ∷ ps) = n ∷ names_of ps

-- Both are those of the pieces that the template is the written form of.
abbrev pub ItemsOfPieces : List ℕ → Type 0
ItemsOfPieces t = (ps : List Piece) → Written t ps → (items t ≡ map item ps) × (names t ≡ names_of ps)
