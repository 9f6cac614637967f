-- The items of a template are those of its pieces, and so is its plan.
use Rattle.std.proofs.Common.{◌≡◌, ℕ, List, [], ◌∷◌, map, Some, sym, refl, ap, ◌∙◌}
use Rattle.host.specs.Meaning.{Meaning}
use Rattle.host.specs.Run.{Item, literal, hole as gap, plan}
use Rattle.template.specs.Notation.{Piece, itself, escape, named, item}
use Rattle.template.specs.Lexing.{Lexed, byte, hole, end, fault, lexed_from}
use Rattle.outline.specs.declared.token.Token.{Token}
use Rattle.outline.specs.Tokens.{token_of, Planned}
use Rattle.outline.proofs.Laid.{laid, written_laid}

-- the items of what was read, up to the first fault of notation
abbrev pub items_of : Lexed → List Item
items_of (byte p b rest) = literal b ∷ items_of rest
items_of (hole p n rest) = gap ∷ items_of rest
items_of (end p) = []
items_of (fault r) = []

abbrev pub items : List ℕ → List Item
items t = items_of (lexed_from t 0)

items_laid : (ps : List Piece) (p : ℕ) → items_of (laid ps p) ≡ map item ps
items_laid [] p = refl
items_laid (itself b ∷ ps) p = ap (λ is. literal b ∷ is) (items_laid ps _)
items_laid (escape e ∷ ps) p = ap (λ is. item (escape e) ∷ is) (items_laid ps _)
items_laid (named n ∷ ps) p = ap (λ is. gap ∷ is) (items_laid ps _)

pub planned : (m : Meaning) (t : List ℕ) (ts : List Token) → plan m (items t) ≡ Some (map token_of ts) → Planned m t ts
planned m t ts e ps w = ap (plan m) (sym (ap items_of (written_laid t ps w) ∙ items_laid ps 0)) ∙ e
