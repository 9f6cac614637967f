-- Fields as they are written and as they are judged. Assumes nothing.
use Rattle.std.proofs.Common.{◌≡◌, ℕ, ◌+◌, ◌*◌, ◌/◌, ◌%◌, ◌<◌, ◌≤◌, true, cond, leb, List, [], ◌∷◌, ◌++◌, length, take, drop, Some, None, Ok, Err, Option, refl, ap, ◌∙◌, sym, arith}
use Rattle.std.proofs.lemmas.List.{take_at, drop_at, drop-drop, length-append, length-take-le, take-append-drop}
use Rattle.std.proofs.lemmas.Bool.{le-leb, cond-true}
use Rattle.std.proofs.lemmas.Bool.Decides.{nat_tests}
use Rattle.fault.specs.declared.fault.Fault.TheVariants.{BadRecordName, RecordValueTooLong}
use Rattle.record.specs.declared.field.Head.TheVariants.{Name, End}
use Rattle.record.specs.Names.{good_name}
use Rattle.record.specs.Format.{field}
use Rattle.record.specs.Reading.{split, body, judged_head, judged_value, head_of, value_of}

-- a written field, with anything after it
module _ (t : ℕ) (xs rest : List ℕ) where
  split_field_lem : split (field t xs ++ rest) ≡ Some (t, length xs)
  split_field_lem =
      let n = length xs in
      let whole : n / 256 * 256 + n % 256 ≡ n = omega arith in
      ap (λ k. cond (leb k (length (xs ++ rest))) (Some (t, k)) None) whole ∙ cond-true _ _ _ (le-leb n (length (xs ++ rest)) (omega (arith, length-append xs rest)))

  pub body_field : body (length xs) (field t xs ++ rest) ≡ xs
  body_field = take_at xs rest (length xs) refl

  pub past_field : drop (3 + length xs) (field t xs ++ rest) ≡ rest
  past_field = sym (drop-drop (length xs) 3 (field t xs ++ rest)) ∙ drop_at xs rest (length xs) refl

-- what is said of it
pub head_written : (p : ℕ) (xs rest : List ℕ) → head_of p (field 1 xs ++ rest) ≡ cond (good_name xs) (Ok (Name (length xs))) (Err (BadRecordName p))
head_written p xs rest = rw (split_field_lem 1 xs rest, body_field 1 xs rest)

pub head_end : (p : ℕ) (rest : List ℕ) → head_of p (field 3 [] ++ rest) ≡ Ok End
head_end p rest = rw (split_field_lem 3 [] rest)

pub value_written : (p : ℕ) (xs rest : List ℕ) → value_of p (field 2 xs ++ rest) ≡ cond (leb (length xs) 160) (Ok (length xs)) (Err (RecordValueTooLong p))
value_written p xs rest = rw (split_field_lem 2 xs rest)

split_parts : (x m l t n : ℕ) → cond {A = Option (ℕ × ℕ)} (leb m l) (Some (x, m)) None ≡ Some (t, n) → (m ≤ l) × (x ≡ t) × (m ≡ n)
split_parts x m l t n e = (grind (arith, nat_tests), grind (arith, nat_tests), grind (arith, nat_tests))

-- a field that is split off is whole
pub long_field : (t n : ℕ) (bs : List ℕ) → split bs ≡ Some (t, n) → length (body n bs) ≡ n
long_field t n [] e = cc
long_field t n (x ∷ []) e = cc
long_field t n (x ∷ y ∷ []) e = cc
long_field t n (x ∷ y ∷ z ∷ cs) e = let parts = split_parts x (y * 256 + z) (length cs) t n e in length-take-le n cs (omega arith)

-- and one of less than 256 bytes was written so
pub was_field : (t n : ℕ) (bs : List ℕ) → n < 256 → split bs ≡ Some (t, n) → bs ≡ field t (body n bs) ++ drop (3 + n) bs
was_field t n [] h e = cc
was_field t n (x ∷ []) h e = cc
was_field t n (x ∷ y ∷ []) h e = cc
was_field t n (x ∷ y ∷ z ∷ cs) h e =
    let parts = split_parts x (y * 256 + z) (length cs) t n e in
    let long = long_field t n (x ∷ y ∷ z ∷ cs) e in
    let high : y ≡ length (take n cs) / 256 = omega arith in
    let low : z ≡ length (take n cs) % 256 = omega arith in
    let rest = take-append-drop n cs in
    let past = drop-drop n 3 (x ∷ y ∷ z ∷ cs) in
    cc

-- what a head or a value that is taken was
pub was_name : (p n : ℕ) (bs : List ℕ) (o : Option (ℕ × ℕ)) → judged_head p bs o ≡ Ok (Name n) → (o ≡ Some (1, n)) × (good_name (body n bs) ≡ true)
was_name p n bs None e = cc
was_name p n bs (Some (t, k)) e = (grind (arith, nat_tests), grind (arith, nat_tests))

pub was_end : (p : ℕ) (bs : List ℕ) (o : Option (ℕ × ℕ)) → judged_head p bs o ≡ Ok End → o ≡ Some (3, 0)
was_end p bs None e = cc
was_end p bs (Some (t, k)) e = grind (arith, nat_tests)

pub was_value : (p n : ℕ) (o : Option (ℕ × ℕ)) → judged_value p o ≡ Ok n → (o ≡ Some (2, n)) × (n ≤ 160)
was_value p n None e = cc
was_value p n (Some (t, k)) e = (grind (arith, nat_tests), grind (arith, nat_tests))

pub good_short : (xs : List ℕ) → good_name xs ≡ true → length xs ≤ 16
good_short [] e = cc
good_short (b ∷ bs) e = grind (arith, nat_tests)
