-- Reader and writer agree. Assumes nothing.
use Rattle.std.proofs.Common.{◌≡◌, ℕ, zero, suc, ◌+◌, ◌<◌, ◌≤◌, Bool, true, false, cond, leb, List, [], ◌∷◌, ◌++◌, length, drop, Some, None, Ok, Err, Option, sym, refl, ap, subst, ◌∙◌, append_assoc, append-nil, arith}
use Rattle.std.proofs.lemmas.List.{drop_at, length-append, length_push}
use Rattle.std.proofs.lemmas.Bool.{lt-ltb, le-ltb, ne_eqb}
use Rattle.fault.specs.declared.fault.Fault.{Fault}
use Rattle.fault.specs.declared.fault.Fault.TheVariants.{BadRecordName, RecordValueTooLong, TooManyNames, NameTwice}
use Rattle.fault.specs.Refusal.{Refusal, plain}
use Rattle.record.specs.declared.field.Head.TheVariants.{Name}
use Rattle.record.specs.Names.{good_name}
use Rattle.record.specs.Format.{Pair, field, packed, Stands}
use Rattle.record.specs.Reading.{Answer, found, refused, faulty, on_head, on_value, named, reads, read_at}
use Rattle.record.specs.Writing.{after_pair, or_else, refused_from, refused_pairs}
use Rattle.record.specs.Law.{Agrees, ReaderAndWriterAgree}
use Rattle.record.proofs.Fields.{body_field, past_field, head_written, head_end, value_written}
use Rattle.record.proofs.Turns.{reads_end}
use Rattle.record.proofs.Judging.{packed_more}

on_head_cond : (b : Bool) (n : ℕ) (f : Fault) (ps : List Pair) (p : ℕ) (more : ℕ → Answer) → on_head (cond b (Ok (Name n)) (Err f)) ps p more ≡ cond b (more n) (faulty f)
on_head_cond true n f ps p more = refl
on_head_cond false n f ps p more = refl

on_value_cond : (b : Bool) (n : ℕ) (f : Fault) (more : ℕ → Answer) → on_value (cond b (Ok n) (Err f)) more ≡ cond b (more n) (faulty f)
on_value_cond true n f more = refl
on_value_cond false n f more = refl

-- where a pair stands in written form, it is judged, and what comes after it is read
module _ (ps : List Pair) (p : ℕ) (q : Pair) (tail : List ℕ) where
  abbrev rest : List ℕ
  rest = field 2 q.1 ++ tail

  abbrev bytes : List ℕ
  bytes = field 1 q.0 ++ rest

  reads_none : reads 0 ps p bytes ≡ cond (good_name q.0) (faulty (TooManyNames p)) (faulty (BadRecordName p))
  reads_none = rw (head_written p q.0 rest, on_head_cond)

  reads_more : (room : ℕ) → reads (suc room) ps p bytes ≡ cond (good_name q.0) (cond (named q.0 ps) (faulty (NameTwice p)) (cond (leb (length q.1) 160) (reads room (ps ++ q ∷ []) (after_pair p q) tail) (faulty (RecordValueTooLong (p + (3 + length q.0)))))) (faulty (BadRecordName p))
  reads_more room = rw (head_written p q.0 rest, on_head_cond, body_field 1 q.0 rest, past_field 1 q.0 rest, value_written (p + (3 + length q.0)) q.1 tail, on_value_cond, body_field 1 q.0 rest, past_field 1 q.0 rest, body_field 2 q.1 tail, past_field 2 q.1 tail)

-- What comes of reading the pairs qs after the pairs ps: a refusal, or all of them.
abbrev Comes : List Pair → List Pair → ℕ → Option Refusal → Answer → Type 0
Comes ps qs p None a = (e : ℕ) × (a ≡ found (ps ++ qs) e (e + 3)) × (e + 3 ≡ p + length (packed qs))
Comes ps qs p (Some r) a = a ≡ refused r

module _ (ps qs : List Pair) (p : ℕ) (q : Pair) where
  -- a pair that has no place, and one that is judged
  comes_none : (g : Bool) (more : Option Refusal) → Comes ps (q ∷ qs) p (or_else (cond g (Some (plain 25 p)) (Some (plain 23 p))) more) (cond g (faulty (TooManyNames p)) (faulty (BadRecordName p)))
  comes_none true more = refl
  comes_none false more = refl

  comes_more : (g t s : Bool) (d : ℕ) (more : Option Refusal) (next : Answer) → Comes (ps ++ q ∷ []) qs (after_pair p q) more next → Comes ps (q ∷ qs) p (or_else (cond g (cond t (Some (plain 26 p)) (cond s None (Some (plain 24 d)))) (Some (plain 23 p))) more) (cond g (cond t (faulty (NameTwice p)) (cond s next (faulty (RecordValueTooLong d)))) (faulty (BadRecordName p)))
  comes_more false t s d more next h = refl
  comes_more true true s d more next h = refl
  comes_more true false false d more next h = refl
  comes_more true false true d None next h = (h.0, h.1 ∙ ap (λ l. found l h.0 (h.0 + 3)) (append_assoc ps (q ∷ []) qs), omega (arith, h.2, packed_more q qs))
  comes_more true false true d (Some r) next h = h

pub packed_split : (q : Pair) (qs : List Pair) (after : List ℕ) → packed (q ∷ qs) ++ after ≡ field 1 q.0 ++ (field 2 q.1 ++ (packed qs ++ after))
packed_split q qs after = append_assoc (field 1 q.0) (field 2 q.1 ++ packed qs) after ∙ ap (λ l. field 1 q.0 ++ l) (append_assoc (field 2 q.1) (packed qs) after)

comes : (qs : List Pair) (room : ℕ) (ps : List Pair) (p : ℕ) (after : List ℕ) → room + length ps ≡ 64 → Comes ps qs p (refused_from ps p qs) (reads room ps p (packed qs ++ after))
comes [] room ps p after fits = (p, reads_end ps p (packed [] ++ after) room (head_end p after) ∙ ap (λ l. found l p (p + 3)) (sym (append-nil ps)), refl)
comes (q ∷ qs) zero ps p after fits =
    let read = ap (reads 0 ps p) (packed_split q qs after) ∙ reads_none ps p q (packed qs ++ after) in
    let P : Answer → Type 0 = Comes ps (q ∷ qs) p (refused_from ps p (q ∷ qs)) in
    subst P (sym read) (rw (le-ltb (length ps) 64 (omega arith)) (comes_none ps qs p q (good_name q.0) (refused_from (ps ++ q ∷ []) (after_pair p q) qs)))
comes (q ∷ qs) (suc room) ps p after fits =
    let read = ap (reads (suc room) ps p) (packed_split q qs after) ∙ reads_more ps p q (packed qs ++ after) room in
    let next = comes qs room (ps ++ q ∷ []) (after_pair p q) after (omega (arith, length_push ps q)) in
    let P : Answer → Type 0 = Comes ps (q ∷ qs) p (refused_from ps p (q ∷ qs)) in
    subst P (sym read) (rw (lt-ltb (length ps) 64 (omega arith)) (comes_more ps qs p q (good_name q.0) (named q.0 ps) (leb (length q.1) 160) (p + (3 + length q.0)) _ _ next))

packed_some : (ps : List Pair) → 3 ≤ length (packed ps)
packed_some [] = omega arith
packed_some (p ∷ ps) = omega (arith, packed_more p ps)

-- the tests of a place
pub read_inside : (input : List ℕ) (place : ℕ) → place < length input → read_at input place ≡ reads 64 [] place (drop place input)
read_inside input place h = rw (le-ltb (length input) place (omega arith), ne_eqb place (length input) (λ e. omega arith))

-- reading where a written form stands
at_stands : (input : List ℕ) (place : ℕ) (ps : List Pair) (s : Stands ps input place) → read_at input place ≡ reads 64 [] place (packed ps ++ s.after)
at_stands input place ps s =
    let rest = packed ps ++ s.after in
    let long : length input ≡ place + (length (packed ps) + length s.after) = omega (arith, ap length s.is, length-append s.before rest, length-append (packed ps) s.after, s.at) in
    let some = packed_some ps in
    read_inside input place (omega arith) ∙ ap (reads 64 [] place) (ap (drop place) s.is ∙ drop_at s.before rest place s.at)

pub reader_and_writer_agree_lem : ReaderAndWriterAgree
reader_and_writer_agree_lem ps input place s = go (refused_pairs place ps) (comes ps 64 [] place s.after refl)
  where
    go : (o : Option Refusal) → Comes [] ps place o (reads 64 [] place (packed ps ++ s.after)) → Agrees place ps o (read_at input place)
    go None w = record { end = w.0; is = at_stands input place ps s ∙ w.1; next = w.2 }
    go (Some r) w = at_stands input place ps s ∙ w
