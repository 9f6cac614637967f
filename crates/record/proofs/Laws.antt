-- Reading undoes writing. Assumes nothing.
use Rattle.std.proofs.Common.{◌≡◌, ℕ, zero, suc, ◌+◌, ◌<◌, ◌≤◌, Bool, true, false, cond, eqb, ltb, List, [], ◌∷◌, ◌++◌, length, take, drop, None, Ok, Err, All, Option, Result, sym, refl, ap, ◌∙◌, subst, append_assoc, append-nil, arith}
use Rattle.std.proofs.lemmas.List.{length-take-le, take-append-drop}
use Rattle.std.proofs.lemmas.List.Elements.{All-nil, All-cons}
use Rattle.std.proofs.lemmas.Bool.Decides.{nat_tests}
use Rattle.fault.specs.declared.fault.Fault.{Fault}
use Rattle.fault.specs.declared.fault.Fault.TheVariants.{FieldCutShort, TooManyNames, NameTwice}
use Rattle.fault.specs.Refusal.{Refusal}
use Rattle.record.specs.declared.field.Head.{Head}
use Rattle.record.specs.declared.field.Head.TheVariants.{Name, End}
use Rattle.record.specs.Format.{Pair, field, packed, Distinct, GoodPair, Good, Stands}
use Rattle.record.specs.Reading.{Answer, found, none, faulty, split, body, head_of, value_of, on_head, on_value, named, with_value, with_name, reads, read_at}
use Rattle.record.specs.Writing.{refused_pairs, verdict}
use Rattle.record.specs.Law.{Law, ReadsBack, WasWritten, Kept, Agrees, Wrote}
use Rattle.record.proofs.Fields.{long_field, was_field, good_short, was_name, was_end, was_value}
use Rattle.record.proofs.Judging.{packed_more, distinct_push, verdict_ok, refused_or_good_lem}
use Rattle.record.proofs.Agreement.{packed_split, read_inside, reader_and_writer_agree_lem}

-- what is read on from the pairs ps at the place p was written there
record Was (room : ℕ) (ps : List Pair) (p : ℕ) (bs : List ℕ) (qs : List Pair) (e m : ℕ) : Type 0 where
  more : List Pair
  after : List ℕ
  is : qs ≡ ps ++ more
  few : length more ≤ room
  good : All GoodPair more
  distinct : Distinct qs
  stands : bs ≡ packed more ++ after
  ends : e + 3 ≡ m
  next : m ≡ p + length (packed more)

-- an end
was_ended : (room : ℕ) (ps : List Pair) (p : ℕ) (bs : List ℕ) (qs : List Pair) (e m : ℕ) → Distinct ps → head_of p bs ≡ Ok End → found ps p (p + 3) ≡ found qs e m → Was room ps p bs qs e m
was_ended room ps p bs qs e m d h c =
    let pairs : ps ≡ qs = cc in
    let place : p ≡ e = cc in
    let after : p + 3 ≡ m = cc in
    record { more = []; after = drop (3 + 0) bs; is = sym pairs ∙ sym (append-nil ps); few = omega arith; good = All-nil GoodPair; distinct = subst Distinct pairs d; stands = was_field 3 0 bs (omega arith) (was_end p bs (split bs) h); ends = omega arith; next = sym after }

-- a pair, and what comes after it
was_pair : (room : ℕ) (ps : List Pair) (p : ℕ) (bs : List ℕ) (qs : List Pair) (e m n v : ℕ) → head_of p bs ≡ Ok (Name n) → value_of (p + (3 + n)) (drop (3 + n) bs) ≡ Ok v → Was room (ps ++ ((body n bs, body v (drop (3 + n) bs)) ∷ [])) (p + (3 + n) + (3 + v)) (drop (3 + v) (drop (3 + n) bs)) qs e m → Was (suc room) ps p bs qs e m
was_pair room ps p bs qs e m n v h g w =
    let name = was_name p n bs (split bs) h in
    let rest = drop (3 + n) bs in
    let value = was_value (p + (3 + n)) v (split rest) g in
    let a = body n bs in
    let b = body v rest in
    let long_a : length a ≡ n = long_field 1 n bs name.0 in
    let long_b : length b ≡ v = long_field 2 v rest value.0 in
    let short = good_short a name.1 in
    let first = was_field 1 n bs (omega arith) name.0 in
    let second = was_field 2 v rest (omega arith) value.0 in
    let q : Pair = (a, b) in
    let qs' = w.more in
    let long = packed_more q qs' in
    record {
      more = q ∷ qs';
      after = w.after;
      is = w.is ∙ append_assoc ps (q ∷ []) qs';
      few = omega (arith, w.few);
      good = All-cons GoodPair q qs' (name.1, omega arith) w.good;
      distinct = w.distinct;
      stands = first ∙ ap (λ l. field 1 a ++ l) (second ∙ ap (λ l. field 2 b ++ l) w.stands) ∙ sym (packed_split q qs' w.after);
      ends = w.ends;
      next = omega (arith, w.next);
    }

was : (room : ℕ) (ps : List Pair) (p : ℕ) (bs : List ℕ) (qs : List Pair) (e m : ℕ) → Distinct ps → reads room ps p bs ≡ found qs e m → Was room ps p bs qs e m
was zero ps p bs qs e m d c = go (head_of p bs) refl c
  where
    go : (h : Result Head Fault) → head_of p bs ≡ h → on_head h ps p (λ n. faulty (TooManyNames p)) ≡ found qs e m → Was 0 ps p bs qs e m
    go (Ok (Name n)) i c = cc
    go (Ok End) i c = was_ended 0 ps p bs qs e m d i c
    go (Err f) i c = cc
was (suc room) ps p bs qs e m d c = go (was room) (head_of p bs) refl c
  where
    Recur : Type 0
    Recur = (ps : List Pair) (p : ℕ) (bs : List ℕ) (qs : List Pair) (e m : ℕ) → Distinct ps → reads room ps p bs ≡ found qs e m → Was room ps p bs qs e m

    value : Recur → (n : ℕ) → head_of p bs ≡ Ok (Name n) → named (body n bs) ps ≡ false → (w : Result ℕ Fault) → value_of (p + (3 + n)) (drop (3 + n) bs) ≡ w → on_value w (with_value (reads room) ps p bs n) ≡ found qs e m → Was (suc room) ps p bs qs e m
    value recur n h t (Ok v) i c = was_pair room ps p bs qs e m n v h i (recur _ _ _ qs e m (distinct_push ps (body n bs, body v (drop (3 + n) bs)) d t) c)
    value recur n h t (Err f) i c = cc

    name : Recur → (n : ℕ) → head_of p bs ≡ Ok (Name n) → (t : Bool) → named (body n bs) ps ≡ t → cond t (faulty (NameTwice p)) (on_value (value_of (p + (3 + n)) (drop (3 + n) bs)) (with_value (reads room) ps p bs n)) ≡ found qs e m → Was (suc room) ps p bs qs e m
    name recur n h true i c = cc
    name recur n h false i c = value recur n h i (value_of (p + (3 + n)) (drop (3 + n) bs)) refl c

    go : Recur → (h : Result Head Fault) → head_of p bs ≡ h → on_head h ps p (with_name (reads room) ps p bs) ≡ found qs e m → Was (suc room) ps p bs qs e m
    go recur (Ok (Name n)) i c = name recur n i (named (body n bs) ps) refl c
    go recur (Ok End) i c = was_ended (suc room) ps p bs qs e m d i c
    go recur (Err f) i c = cc

back : (input : List ℕ) (place : ℕ) (ps : List Pair) → Good ps → Stands ps input place → ReadsBack place (read_at input place) ps
back input place ps g s =
    let P : Option Refusal → Type 0 = λ o. Agrees place ps o (read_at input place) in
    subst P ((refused_or_good_lem place ps).taken g) (reader_and_writer_agree_lem ps input place s)

-- where something is found, the place lies before the input's end
found_inside : (n place : ℕ) (a : Answer) (qs : List Pair) (e m : ℕ) → cond (ltb n place) (faulty (FieldCutShort n)) (cond (eqb place n) none a) ≡ found qs e m → place < n
found_inside n place a qs e m c = grind (arith, nat_tests)

was_read : (input : List ℕ) (place : ℕ) (ps : List Pair) (end next : ℕ) → read_at input place ≡ found ps end next → WasWritten input place end next ps
was_read input place ps end next c =
    let inside = found_inside (length input) place (reads 64 [] place (drop place input)) ps end next c in
    let w = was 64 [] place (drop place input) ps end next tt (sym (read_inside input place inside) ∙ c) in
    let same : w.more ≡ ps = sym w.is in
    record {
      good = record { few = subst (λ l. length l ≤ 64) same w.few; pairs = subst (All GoodPair) same w.good; distinct = w.distinct };
      stands = record { before = take place input; after = w.after; is = sym (take-append-drop place input) ∙ ap (λ l. take place input ++ l) (w.stands ∙ ap (λ l. packed l ++ w.after) same); at = length-take-le place input (omega arith) };
      ends = w.ends;
      next_is = w.next ∙ ap (λ l. place + length (packed l)) same;
    }

-- Reading undoes writing.
pub reading_undoes_writing : (input : List ℕ) (place : ℕ) → Law input place (read_at input place)
reading_undoes_writing input place = record { back = back input place; was = was_read input place }

-- the law of what is answered
pub law_of : (input : List ℕ) (place : ℕ) (a : Answer) → a ≡ read_at input place → Law input place a
law_of input place a e = subst (Law input place) (sym e) (reading_undoes_writing input place)

-- what is put at the end of a file is kept
kept : (before file : List ℕ) (ps : List Pair) → file ≡ before ++ packed ps → refused_pairs (length before) ps ≡ None → Kept file (length before) ps
kept before file ps is taken =
    let good = (refused_or_good_lem (length before) ps).good taken in
    record { good = good; back = λ after. back (file ++ after) (length before) ps good (record { before = before; after = after; is = ap (λ l. l ++ after) is ∙ append_assoc before (packed ps) after; at = refl }) }

-- the end of writing
pub wrote : (room : ℕ) (before after : List ℕ) (ps : List Pair) (place n : ℕ) → place ≡ length before → Ok n ≡ verdict (refused_pairs place ps) (length (packed ps)) → after ≡ before ++ packed ps → Wrote room before after ps (Ok tt)
wrote room before after ps place n here judged is =
    let taken = ap (λ p. refused_pairs p ps) (sym here) ∙ (verdict_ok (refused_pairs place ps) (length (packed ps)) n judged).0 in
    record { refuses = sym taken; bytes = is; memory = tt; kept = kept before after ps is taken }
