-- The notation is unambiguous: a written form is the written form of one row of pieces alone.
use Rattle.std.proofs.Common.{◌≡◌, ℕ, suc, true, false, cond, eqb, ltb, List, [], ◌∷◌, ◌++◌, length, sym, refl, ap, ◌∙◌, arith}
use Rattle.std.specs.List.{flat_map, AllByRecursion}
use Rattle.std.proofs.lemmas.Bool.{eq-eqb, and_parts, false≢true}
use Rattle.template.specs.Notation.{goes_on, name_from, Escape, at, line, return, tab, sign, Piece, itself, escape, named, written, proper}
use Rattle.template.specs.Law.{ReadOneWay}
use Rattle.template.proofs.Pieces.{no_brace}

heads : {A : Type 0} {x y : A} {xs ys : List A} → x ∷ xs ≡ y ∷ ys → x ≡ y
heads e = cc

tails : {A : Type 0} {x y : A} {xs ys : List A} → x ∷ xs ≡ y ∷ ys → xs ≡ ys
tails e = cc

no_bytes : {A : Type 0} {x : A} {xs : List A} → [] ≡ x ∷ xs → ⊥
no_bytes e = let z : ◌≡◌ {A = ℕ} 0 1 = cc in omega arith

-- an escape is known by its sign
by_sign : ℕ → Escape
by_sign b = cond (eqb b 64) at (cond (eqb b 110) line (cond (eqb b 114) return tab))

back : (e : Escape) → e ≡ by_sign (sign e)
unfolding by_sign
back at = refl
back line = refl
back return = refl
back tab = refl

one_sign : (e f : Escape) → sign e ≡ sign f → e ≡ f
one_sign e f same = back e ∙ ap by_sign same ∙ sym (back f)

not_brace : (e : Escape) → sign e ≡ 123 → ⊥
not_brace at h = omega arith
not_brace line h = omega arith
not_brace return h = omega arith
not_brace tab h = omega arith

-- a byte that stands for itself is no at-sign
not_sign : (b : ℕ) → eqb b 64 ≡ false → b ≡ 64 → ⊥
not_sign b other e = false≢true (sym other ∙ eq-eqb b 64 e)

-- the brace ends a name
not_in_name : (k b : ℕ) → goes_on k b ≡ true → b ≡ 125 → ⊥
not_in_name k b on e = false≢true (sym (no_brace k) ∙ sym (ap (goes_on k) e) ∙ on)

one_name : (n n' : List ℕ) (k : ℕ) (rest rest' : List ℕ) → name_from k n ≡ true → name_from k n' ≡ true → (n ++ (125 ∷ [])) ++ rest ≡ (n' ++ (125 ∷ [])) ++ rest' → (n ≡ n') × (rest ≡ rest')
one_name [] [] k rest rest' ok ok' e = (refl, tails e)
one_name [] (b ∷ n') k rest rest' ok ok' e = absurd (not_in_name k b (and_parts (goes_on k b) _ ok').0 (sym (heads e)))
one_name (b ∷ n) [] k rest rest' ok ok' e = absurd (not_in_name k b (and_parts (goes_on k b) _ ok).0 (heads e))
one_name (b ∷ n) (b' ∷ n') k rest rest' ok ok' e =
    let r = one_name n n' (suc k) rest rest' (and_parts (goes_on k b) _ ok).1 (and_parts (goes_on k b') _ ok').1 (tails e) in
    let same = heads e in
    ((λ i. same i ∷ r.0 i), r.1)

one_row : (ps qs : List Piece) → AllByRecursion proper ps → AllByRecursion proper qs → flat_map written ps ≡ flat_map written qs → ps ≡ qs
one_row [] [] well well' e = refl
one_row [] (itself b ∷ qs) well well' e = absurd (no_bytes e)
one_row [] (escape x ∷ qs) well well' e = absurd (no_bytes e)
one_row [] (named n ∷ qs) well well' e = absurd (no_bytes e)
one_row (itself b ∷ ps) [] well well' e = absurd (no_bytes (sym e))
one_row (escape x ∷ ps) [] well well' e = absurd (no_bytes (sym e))
one_row (named n ∷ ps) [] well well' e = absurd (no_bytes (sym e))
one_row (itself b ∷ ps) (itself c ∷ qs) well well' e =
    let same = heads e in
    let rest = one_row ps qs well.1 well'.1 (tails e) in
    λ i. itself (same i) ∷ rest i
one_row (itself b ∷ ps) (escape x ∷ qs) well well' e = absurd (not_sign b well.0 (heads e))
one_row (itself b ∷ ps) (named n ∷ qs) well well' e = absurd (not_sign b well.0 (heads e))
one_row (escape x ∷ ps) (itself c ∷ qs) well well' e = absurd (not_sign c well'.0 (sym (heads e)))
one_row (named n ∷ ps) (itself c ∷ qs) well well' e = absurd (not_sign c well'.0 (sym (heads e)))
one_row (escape x ∷ ps) (escape y ∷ qs) well well' e =
    let same = one_sign x y (heads (tails e)) in
    let rest = one_row ps qs well.1 well'.1 (tails (tails e)) in
    λ i. escape (same i) ∷ rest i
one_row (escape x ∷ ps) (named n ∷ qs) well well' e = absurd (not_brace x (heads (tails e)))
one_row (named n ∷ ps) (escape y ∷ qs) well well' e = absurd (not_brace y (sym (heads (tails e))))
one_row (named n ∷ ps) (named n' ∷ qs) well well' e =
    let name = (and_parts (ltb 0 (length n)) _ well.0).1 in
    let name' = (and_parts (ltb 0 (length n')) _ well'.0).1 in
    let r = one_name n n' 0 (flat_map written ps) (flat_map written qs) name name' (tails (tails e)) in
    let rest = one_row ps qs well.1 well'.1 r.1 in
    λ i. named (r.0 i) ∷ rest i

pub read_one_way : (t : List ℕ) → ReadOneWay t
read_one_way t ps qs w w' = one_row ps qs w.well w'.well (w.spelled ∙ sym w'.spelled)
