-- A row of bytes is the written form of pieces, and then nothing or something that begins no piece; and what the lexer makes of each.
use Rattle.std.proofs.Common.{◌≡◌, ℕ, suc, ◌+◌, ◌≤◌, Bool, true, false, ◌&&◌, ◌||◌, eqb, ltb, ◌⊎◌, List, [], ◌∷◌, ◌++◌, length, sym, refl, ap, ◌∙◌, subst, inl, inr, append_assoc, append-nil, arith, length-append}
use Rattle.std.specs.List.{flat_map, AllByRecursion}
use Rattle.std.proofs.lemmas.Bool.{false≢true, eqb-true, eq-eqb, ltb-true, lt-ltb, cases_Bool, cases_eq, cond-false, and_parts, and_from}
use Rattle.template.specs.Notation.{goes_on, name_from, Escape, at, line, return, tab, sign, stands_for, Piece, itself, escape, named, written, proper}
use Rattle.template.specs.Lexing.{Lexed, byte, hole, fault, Mode, between_pieces, after_sign, in_name, Move, give_byte, move, lex}
use Rattle.template.proofs.Lexed.{onward, not_both, move_on, move_close, move_break, no_sign}
use Rattle.fault.specs.Refusal.{Report, report}

pub step_move : (mode : Mode) (p b : ℕ) (bs : List ℕ) (mv : Move) → move mode p b ≡ mv → lex mode p (b ∷ bs) ≡ onward mv (p + 1) bs
step_move mode p b bs mv e = ap (λ v. onward v (p + 1) bs) e

-- the bytes of a name, after the part of it that is read
read_name : (n acc : List ℕ) (q p : ℕ) (rest : List ℕ) → name_from (length acc) n ≡ true → lex (in_name q acc) p (n ++ rest) ≡ lex (in_name q (acc ++ n)) (p + length n) rest
read_name [] acc q p rest ok =
    let here : p ≡ p + 0 = omega arith in
    λ i. lex (in_name q (sym (append-nil acc) i)) (here i) rest
read_name (b ∷ n) acc q p rest ok =
    let parts = and_parts (goes_on (length acc) b) (name_from (suc (length acc)) n) ok in
    let long : length (acc ++ (b ∷ [])) ≡ suc (length acc) = length-append acc (b ∷ []) ∙ omega arith in
    let there : p + 1 + length n ≡ p + suc (length n) = omega arith in
    step_move (in_name q acc) p b (n ++ rest) _ (move_on q acc p b parts.0)
    ∙ read_name n (acc ++ (b ∷ [])) q (p + 1) rest (ap (λ k. name_from k n) long ∙ parts.1)
    ∙ (λ i. lex (in_name q (append_assoc acc (b ∷ []) n i)) (there i) rest)

pub no_brace : (n : ℕ) → goes_on n 125 ≡ false
no_brace n = lemma (ltb n 16) (ltb 0 n)
  where
    lemma : (x y : Bool) → (x && (false || (y && false))) ≡ false
    lemma true true = refl
    lemma true false = refl
    lemma false y = refl

-- a piece that begins at a place, before what is read after it
abbrev pub placed : Piece → ℕ → Lexed → Lexed
placed (itself b) p rest = byte p b rest
placed (escape e) p rest = byte p (stands_for e) rest
placed (named n) p rest = hole p n rest

pub read_piece : (pc : Piece) → proper pc → (p : ℕ) (rest : List ℕ) → lex between_pieces p (written pc ++ rest) ≡ placed pc p (lex between_pieces (p + length (written pc)) rest)
read_piece (itself b) ok p rest = step_move between_pieces p b rest _ (cond-false _ _ _ ok)
read_piece (escape e) ok p rest = step_move (after_sign p) (p + 1) (sign e) rest _ (chosen e) ∙ ap (λ k. byte p (stands_for e) (lex between_pieces k rest)) (omega arith)
  where
    chosen : (e : Escape) → move (after_sign p) (p + 1) (sign e) ≡ give_byte p (stands_for e)
    chosen at = refl
    chosen line = refl
    chosen return = refl
    chosen tab = refl
read_piece (named n) ok p rest =
    let parts = and_parts (ltb 0 (length n)) (name_from 0 n) ok in
    ap (lex (in_name p []) (p + 1 + 1)) (append_assoc n (125 ∷ []) rest)
    ∙ read_name n [] p (p + 1 + 1) (125 ∷ rest) parts.1
    ∙ step_move (in_name p n) (p + 1 + 1 + length n) 125 rest _ (move_close p n _ 125 (no_brace (length n)) (and_from _ true parts.0 refl))
    ∙ ap (λ k. hole p n (lex between_pieces k rest)) (omega (arith, length-append n (125 ∷ [])))

-- bytes that begin no piece: an at-sign at the end or before a byte that chooses nothing, a name that the end or a byte breaks
pub data Wrong (bs : List ℕ) : Type 0 where
  last : bs ≡ 64 ∷ [] → Wrong bs
  stray : (b : ℕ) (rest : List ℕ) → bs ≡ 64 ∷ b ∷ rest → ((e : Escape) → b ≡ sign e → ⊥) → (b ≡ 123 → ⊥) → Wrong bs
  unclosed : (n : List ℕ) → name_from 0 n ≡ true → bs ≡ 64 ∷ 123 ∷ n → Wrong bs
  broken : (n : List ℕ) (b : ℕ) (rest : List ℕ) → name_from 0 n ≡ true → bs ≡ 64 ∷ 123 ∷ (n ++ (b ∷ rest)) → goes_on (length n) b ≡ false → (1 ≤ length n → b ≡ 125 → ⊥) → Wrong bs

-- the report for them at a place
abbrev pub blamed : {bs : List ℕ} → Wrong bs → ℕ → Report
blamed (last e) p = report 2 p
blamed (stray b rest e no_escape no_brace) p = report 2 p
blamed (unclosed n ok e) p = report 3 (p + 2 + length n)
blamed (broken n b rest ok e stops no_brace) p = report 3 (p + 2 + length n)

pub read_wrong : (bs : List ℕ) (f : Wrong bs) (p : ℕ) → lex between_pieces p bs ≡ fault (blamed f p)
read_wrong bs (last e) p = ap (lex between_pieces p) e
read_wrong bs (stray b rest e no_escape no_name) p = ap (lex between_pieces p) e ∙ step_move (after_sign p) (p + 1) b rest _ (no_sign p (p + 1) b (no_escape at) (no_escape line) (no_escape return) (no_escape tab) no_name)
read_wrong bs (unclosed n ok e) p =
    ap (lex between_pieces p) (e ∙ ap (λ l. 64 ∷ 123 ∷ l) (sym (append-nil n))) ∙ read_name n [] p (p + 1 + 1) [] ok ∙ ap (λ k. fault (report 3 k)) (omega arith)
read_wrong bs (broken n b rest ok e stops no_end) p =
    let unclosed_yet : (ltb 0 (length n) && eqb b 125) ≡ false = not_both _ _ (λ x y. no_end (ltb-true 0 (length n) x) (eqb-true b 125 y)) in
    ap (lex between_pieces p) e
    ∙ read_name n [] p (p + 1 + 1) (b ∷ rest) ok
    ∙ step_move (in_name p n) (p + 1 + 1 + length n) b rest _ (move_break p n _ b stops unclosed_yet)
    ∙ ap (λ k. fault (report 3 k)) (omega arith)

-- the pieces at the beginning of a row of bytes, as far as there are any
pub record Split (bs : List ℕ) : Type 0 where
  pub pieces : List Piece
  pub well : AllByRecursion proper pieces
  pub rest : List ℕ
  pub spelled : flat_map written pieces ++ rest ≡ bs
  pub stops : (rest ≡ []) ⊎ Wrong rest

one_more : (pc : Piece) {bs : List ℕ} → proper pc → Split bs → Split (written pc ++ bs)
one_more pc ok s = record {
  pieces = pc ∷ s.pieces;
  well = (ok, s.well);
  rest = s.rest;
  spelled = append_assoc (written pc) (flat_map written s.pieces) s.rest ∙ ap (λ l. written pc ++ l) s.spelled;
  stops = s.stops;
}

no_more : (bs : List ℕ) → Wrong bs → Split bs
no_more bs f = record { pieces = []; well = tt; rest = bs; spelled = refl; stops = inr f }

-- the bytes of a piece that are read already
abbrev before : Mode → List ℕ
before between_pieces = []
before (after_sign q) = 64 ∷ []
before (in_name q n) = 64 ∷ 123 ∷ n

abbrev Fine : Mode → Type 0
Fine between_pieces = Unit {0}
Fine (after_sign q) = Unit {0}
Fine (in_name q n) = name_from 0 n ≡ true

name_push : (n : List ℕ) (k b : ℕ) → name_from k n ≡ true → goes_on (k + length n) b ≡ true → name_from k (n ++ (b ∷ [])) ≡ true
name_push [] k b ok e = and_from _ true (ap (λ j. goes_on j b) (omega arith) ∙ e) refl
name_push (x ∷ n) k b ok e =
    let parts = and_parts (goes_on k x) (name_from (suc k) n) ok in
    and_from _ _ parts.0 (name_push n (suc k) b parts.1 (ap (λ j. goes_on j b) (omega arith) ∙ e))

-- whether a byte chooses an escape
sign_of : (b : ℕ) → ((e : Escape) × (b ≡ sign e)) ⊎ ((e : Escape) → b ≡ sign e → ⊥)
sign_of b =
    elim (cases_eq b 64) [
      | inl h ↦ inl (at, h)
      | inr n₁ ↦ elim (cases_eq b 110) [
        | inl h ↦ inl (line, h)
        | inr n₂ ↦ elim (cases_eq b 114) [
          | inl h ↦ inl (return, h)
          | inr n₃ ↦ elim (cases_eq b 116) [
            | inl h ↦ inl (tab, h)
            | inr n₄ ↦ inr (elim [ at ↦ n₁ | line ↦ n₂ | return ↦ n₃ | tab ↦ n₄ ])
          ]
        ]
      ]
    ]

split_in : (bs : List ℕ) (mode : Mode) → Fine mode → Split (before mode ++ bs)
split_in [] between_pieces ok = record { pieces = []; well = tt; rest = []; spelled = refl; stops = inl refl }
split_in [] (after_sign q) ok = no_more (64 ∷ []) (last refl)
split_in [] (in_name q n) ok = no_more (64 ∷ 123 ∷ (n ++ [])) (unclosed n ok (ap (λ l. 64 ∷ 123 ∷ l) (append-nil n)))
split_in (b ∷ bs) between_pieces ok =
    elim (cases_Bool (eqb b 64)) [
      | inl h ↦ subst (λ x. Split (x ∷ bs)) (sym (eqb-true b 64 h)) (split_in bs (after_sign 0) tt)
      | inr h ↦ one_more (itself b) h (split_in bs between_pieces tt)
    ]
split_in (b ∷ bs) (after_sign q) ok =
    elim (sign_of b) [
      | inl s ↦ subst (λ x. Split (64 ∷ x ∷ bs)) (sym s.1) (one_more (escape s.0) tt (split_in bs between_pieces tt))
      | inr no_escape ↦ elim (cases_eq b 123) [
        | inl h ↦ subst (λ x. Split (64 ∷ x ∷ bs)) (sym h) (split_in bs (in_name q []) refl)
        | inr no_name ↦ no_more (64 ∷ b ∷ bs) (stray b bs refl no_escape no_name)
      ]
    ]
split_in (b ∷ bs) (in_name q n) ok =
    elim (cases_Bool (goes_on (length n) b)) [
      | inl h ↦
          let longer = name_push n 0 b ok (ap (λ j. goes_on j b) (omega arith) ∙ h) in
          subst (λ l. Split (64 ∷ 123 ∷ l)) (append_assoc n (b ∷ []) bs) (split_in bs (in_name q (n ++ (b ∷ []))) longer)
      | inr stops ↦ elim (cases_Bool (ltb 0 (length n) && eqb b 125)) [
        | inl k ↦
            let parts = and_parts (ltb 0 (length n)) (eqb b 125) k in
            let done = one_more (named n) (and_from _ _ parts.0 ok) (split_in bs between_pieces tt) in
            subst (λ l. Split (64 ∷ 123 ∷ l)) (append_assoc n (125 ∷ []) bs ∙ ap (λ y. n ++ (y ∷ bs)) (sym (eqb-true b 125 parts.1))) done
        | inr k ↦ no_more (64 ∷ 123 ∷ (n ++ (b ∷ bs))) (broken n b bs ok refl stops (λ some brace. false≢true (sym k ∙ and_from _ _ (lt-ltb 0 (length n) some) (eq-eqb b 125 brace))))
      ]
    ]

pub split : (bs : List ℕ) → Split bs
split bs = split_in bs between_pieces tt
