-- A piece begins at the place that it is read from.
use Rattle.std.proofs.Common.{◌≡◌, ℕ, List, [], ◌∷◌, ◌++◌, ◌⊎◌, inl, inr, drop, sym, refl, ap, ◌∙◌, subst, append_assoc}
use Rattle.std.specs.List.{flat_map, AllByRecursion}
use Rattle.template.specs.Notation.{Piece, itself, escape, named, written, proper}
use Rattle.template.specs.Lexing.{Lexed, byte, hole, end, fault, between_pieces, lex, lexed_from}
use Rattle.template.proofs.Pieces.{placed, read_piece, Wrong, read_wrong, split}

-- the first piece, if there is one, begins at q
abbrev pub Begins : ℕ → Lexed → Type 0
Begins q (byte p b rest) = p ≡ q
Begins q (hole p n rest) = p ≡ q
Begins q (end p) = Unit {0}
Begins q (fault r) = Unit {0}

placed_begins : (pc : Piece) (p : ℕ) (rest : Lexed) → Begins p (placed pc p rest)
placed_begins (itself b) p rest = refl
placed_begins (escape e) p rest = refl
placed_begins (named n) p rest = refl

begins : (ps : List Piece) → AllByRecursion proper ps → (rest : List ℕ) → (rest ≡ []) ⊎ Wrong rest → (p : ℕ) → Begins p (lex between_pieces p (flat_map written ps ++ rest))
begins [] ok rest (inl e) p = subst (λ l. Begins p (lex between_pieces p l)) (sym e) tt
begins [] ok rest (inr w) p = subst (Begins p) (sym (read_wrong rest w p)) tt
begins (pc ∷ ps) ok rest stops p =
    let more = flat_map written ps ++ rest in
    subst (Begins p) (sym (ap (lex between_pieces p) (append_assoc (written pc) (flat_map written ps) rest) ∙ read_piece pc ok.0 p more)) (placed_begins pc p _)

pub begins_at : (t : List ℕ) (p : ℕ) → Begins p (lexed_from t p)
begins_at t p =
    let s = split (drop p t) in
    subst (λ l. Begins p (lex between_pieces p l)) s.spelled (begins s.pieces s.well s.rest s.stops p)
