-- One turn of reading a record. Assumes nothing.
use Rattle.std.proofs.Common.{◌≡◌, ℕ, zero, suc, ◌+◌, ◌-◌, ◌<◌, ◌≤◌, true, false, List, [], ◌∷◌, ◌++◌, Ok, Err, length, take, drop, set, replicate, is_some, All, sym, refl, ap, ap₂, ◌∙◌, subst, arith}
use Rattle.std.proofs.lemmas.List.{drop-drop, drop-set, drop-set-lt, drop-replicate, take_more_set, map_push, length-set}
use Rattle.std.proofs.lemmas.List.Elements.{All-nil, All-push}
use Rattle.record.specs.declared.shape.Entry.{Entry}
use Rattle.fault.specs.declared.fault.Fault.{Fault}
use Rattle.fault.specs.declared.fault.Fault.TheVariants.{NameTwice}
use Rattle.record.specs.declared.field.Head.TheVariants.{Name, End}
use Rattle.record.specs.Format.{Pair}
use Rattle.record.specs.Reading.{Answer, found, faulty, body, head_of, value_of, named, with_value, reads, read_at}
use Rattle.record.specs.Answers.{pair_of, pairs_of, value_span, Lies, InARow, blank_entry, BlankAfter}
use Rattle.record.proofs.Spans.{span_named}

-- what the field at a place comes to
module _ (ps : List Pair) (p : ℕ) (bs : List ℕ) where
  pub reads_end : (room : ℕ) → head_of p bs ≡ Ok End → reads room ps p bs ≡ found ps p (p + 3)
  reads_end zero e = rw e
  reads_end (suc room) e = rw e

  reads_bad : (room : ℕ) (f : Fault) → head_of p bs ≡ Err f → reads room ps p bs ≡ faulty f
  reads_bad zero f e = rw e
  reads_bad (suc room) f e = rw e

  module _ (n : ℕ) (e : head_of p bs ≡ Ok (Name n)) (room : ℕ) where
    reads_twice : named (body n bs) ps ≡ true → reads (suc room) ps p bs ≡ faulty (NameTwice p)
    reads_twice t = rw (e, t)

    reads_bad_value : (f : Fault) → named (body n bs) ps ≡ false → value_of (p + (3 + n)) (drop (3 + n) bs) ≡ Err f → reads (suc room) ps p bs ≡ faulty f
    reads_bad_value f t w = rw (e, t, w)

    reads_pair : (v : ℕ) → named (body n bs) ps ≡ false → value_of (p + (3 + n)) (drop (3 + n) bs) ≡ Ok v → reads (suc room) ps p bs ≡ with_value (reads room) ps p bs n v
    reads_pair v t w = rw (e, t, w)

-- one more entry at the end of a row
row_push : (p q : ℕ) (es : List Entry) (e : Entry) → InARow p es q → e.name.place ≡ q + 3 → e.value.place ≡ e.name.place + e.name.len + 3 → InARow p (es ++ e ∷ []) (e.value.place + e.value.len)
row_push p q [] e r n v = (n ∙ ap (λ k. k + 3) (sym r), v, refl)
row_push p q (x ∷ xs) e r n v = (r.0, r.1, row_push (x.value.place + x.value.len) q xs e r.2 n v)

-- The first count entries are read from the start on, the next head is at a place of the input, and the whole comes to an answer.
pub record Sofar (input : List ℕ) (start : ℕ) (whole : Answer) (es : List Entry) (count at : ℕ) : Type 0 where
  pub few : count ≤ 64
  pub sized : length es ≡ 64
  pub inside : at ≤ length input
  pub lie : All (λ e. Lies (length input) e.name × Lies (length input) e.value) (take count es)
  pub row : InARow start (take count es) at
  pub rest : BlankAfter count es
  pub left : reads (64 - count) (pairs_of input (take count es)) at (drop at input) ≡ whole

module _ {input : List ℕ} {start : ℕ} {whole : Answer} {es : List Entry} {count at : ℕ} (s : Sofar input start whole es count at) where
  abbrev ps : List Pair
  ps = pairs_of input (take count es)

  abbrev bs : List ℕ
  bs = drop at input

  pub at_end : head_of at bs ≡ Ok End → found ps at (at + 3) ≡ whole
  at_end e = sym (reads_end ps at bs (64 - count) e) ∙ s.left

  pub at_bad : (f : Fault) → head_of at bs ≡ Err f → faulty f ≡ whole
  at_bad f e = sym (reads_bad ps at bs (64 - count) f e) ∙ s.left

  module _ (n : ℕ) (e : head_of at bs ≡ Ok (Name n)) (h : count < 64) where
    -- room for one more, as a successor
    room : reads (suc (64 - (count + 1))) ps at bs ≡ whole
    room = let more : suc (64 - (count + 1)) ≡ 64 - count = omega arith in ap (λ r. reads r ps at bs) more ∙ s.left

    -- the name's bytes by their place, and the place where a value is due
    abbrev name : List ℕ
    name = take n (drop (at + 3) input)

    abbrev due : ℕ
    due = at + 3 + n

    same_due : due ≡ at + (3 + n)
    same_due = omega arith

    name_named : named (body n bs) ps ≡ is_some (value_span input name (take count es))
    name_named = rw drop-drop (sym (span_named input name (take count es)))

    same_value : value_of due (drop due input) ≡ value_of (at + (3 + n)) (drop (3 + n) bs)
    same_value = rw (drop-drop, ← same_due)

    pub at_twice : is_some (value_span input name (take count es)) ≡ true → faulty (NameTwice at) ≡ whole
    at_twice t = sym (reads_twice ps at bs n e (64 - (count + 1)) (name_named ∙ t)) ∙ room

    module _ (t : is_some (value_span input name (take count es)) ≡ false) where
      pub at_bad_value : (f : Fault) → value_of due (drop due input) ≡ Err f → faulty f ≡ whole
      at_bad_value f w = sym (reads_bad_value ps at bs n e (64 - (count + 1)) f (name_named ∙ t) (sym same_value ∙ w)) ∙ room

      pub turn : (v : ℕ) → value_of due (drop due input) ≡ Ok v → due + 3 + v ≤ length input → Sofar input start whole (set es count (record { name = record { place = at + 3; len = n }; value = record { place = due + 3; len = v } })) (count + 1) (due + 3 + v)
      turn v w fits =
          let e' : Entry = record { name = record { place = at + 3; len = n }; value = record { place = due + 3; len = v } } in
          let P : Entry → Type 0 = λ x. Lies (length input) x.name × Lies (length input) x.value in
          let pushed = take_more_set es count e' (omega (arith, s.sized)) in
          let read = reads_pair ps at bs n e (64 - (count + 1)) v (name_named ∙ t) (sym same_value ∙ w) in
          let name_is = drop-drop 3 at input in
          let past_name = drop-drop (3 + n) at input in
          let value_is = drop-drop 3 due input in
          let past_value = drop-drop (3 + v) due input in
          let end : due + (3 + v) ≡ due + 3 + v = omega arith in
          let same = same_due in
          let pairs = map_push (pair_of input) (take count es) e' in
          let whole_is = room in
          let fewer : 64 - count - 1 ≡ 64 - (count + 1) = omega arith in
          record {
            few = omega arith;
            sized = length-set es count e' ∙ s.sized;
            inside = fits;
            lie = subst (All P) (sym pushed) (All-push P (take count es) e' s.lie (omega arith, omega arith));
            row = subst (λ l. InARow start l (due + 3 + v)) (sym pushed) (row_push start at (take count es) e' s.row refl refl);
            rest = drop-set-lt (count + 1) es count e' (omega arith) ∙ sym (drop-drop 1 count es) ∙ ap (drop 1) s.rest ∙ drop-replicate 1 (64 - count) blank_entry ∙ ap (λ k. replicate k blank_entry) fewer;
            left = cc;
          }

-- before the first entry
pub at_start : (input : List ℕ) (start : ℕ) (es : List Entry) (count : ℕ) → count ≡ 0 → BlankAfter 0 es → length es ≡ 64 → start < length input → Sofar input start (read_at input start) es count start
at_start input start es count none rest sized inside =
    let left : reads 64 [] start (drop start input) ≡ read_at input start = grind arith in
    subst (λ n. Sofar input start (read_at input start) es n start) (sym none) (record { few = omega arith; sized = sized; inside = omega arith; lie = All-nil _; row = refl; rest = rest; left = left })

-- an entry is taken back
pub taken_back : (es : List Entry) (count : ℕ) (e : Entry) → length es ≡ 64 → count < 64 → BlankAfter (count + 1) es → e ≡ blank_entry → BlankAfter count (set es count e)
taken_back es count e sized lt rest is =
    let fewer : suc (64 - (count + 1)) ≡ 64 - count = omega arith in
    drop-set es count e (omega arith) ∙ ap₂ (λ (x : Entry) (l : List Entry). x ∷ l) is rest ∙ ap (λ (k : ℕ). replicate k blank_entry) fewer
