-- A template that is the written form of pieces is read as those pieces, each at its place.
use Rattle.std.proofs.Common.{◌≡◌, ℕ, ◌+◌, List, [], ◌∷◌, length, sym, refl, ap, ◌∙◌}
use Rattle.std.specs.List.{flat_map, AllByRecursion}
use Rattle.template.specs.Notation.{Piece, written, proper}
use Rattle.template.specs.Law.{Written}
use Rattle.template.specs.Lexing.{Lexed, end, between_pieces, lex, lexed_from}
use Rattle.template.proofs.Pieces.{placed, read_piece}

abbrev pub laid : List Piece → ℕ → Lexed
laid [] p = end p
laid (pc ∷ ps) p = placed pc p (laid ps (p + length (written pc)))

read_laid : (ps : List Piece) → AllByRecursion proper ps → (p : ℕ) → lex between_pieces p (flat_map written ps) ≡ laid ps p
read_laid [] ok p = refl
read_laid (pc ∷ ps) ok p = read_piece pc ok.0 p (flat_map written ps) ∙ ap (placed pc p) (read_laid ps ok.1 (p + length (written pc)))

pub written_laid : (t : List ℕ) (ps : List Piece) → Written t ps → lexed_from t 0 ≡ laid ps 0
written_laid t ps w = ap (lex between_pieces 0) (sym w.spelled) ∙ read_laid ps w.well 0
