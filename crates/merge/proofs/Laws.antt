-- A merged text reads as its record: what the binds of a record's values leave on the sheet.
use Rattle.std.proofs.Common.{◌≡◌, ℕ, zero, suc, ◌+◌, ◌<◌, ◌≤◌, ◌≢◌, List, [], ◌∷◌, length, take, drop, set, Some, None, Ok, Err, All, Option, Result, sym, refl, ap, ◌∙◌, subst, arith, length-set, get_or-set_other}
use Rattle.std.proofs.lemmas.List.Elements.{All-nil, All-cons}
use mathlib.Core.Path.{fun_ext}
use lib.Seq.{take-append_seam}
use Rattle.host.specs.Meaning.{Meaning, Sound}
use Rattle.fault.specs.declared.fault.Fault.{Fault}
use Rattle.fault.specs.Refusal.{Refusal}
use Rattle.template.specs.Items.{names}
use Rattle.template.specs.Judging.{Verdict, refused, accepted, verdict}
use Rattle.template.proofs.Accepted.{accepted_is}
use Rattle.template.proofs.Reading.{nothing, the_same}
use Rattle.record.specs.Answers.{value_of}
use Rattle.record.specs.Format.{Pair}
use Rattle.record.specs.Law.{Law}
use Rattle.record.specs.Reading.{Answer, found, none, refused as faulty, read_at}
use Rattle.printer.specs.declared.row.Row.{Row}
use Rattle.printer.specs.Held.{State, opened, filled, judged_by, judged_finish}
use Rattle.printer.specs.Passes.{and_then}
use Rattle.printer.specs.Printing.{printed, after, ReadsBack}
use Rattle.printer.specs.Rows.{row_of, value_in, value_at}
use Rattle.printer.specs.Slate.{value_or_none}
use Rattle.printer.proofs.Bound.{printed_reads}
use Rattle.printer.proofs.Laid.{past}
use Rattle.printer.proofs.Linked.{stored, past_blank, bind_within, length_blank}
use Rattle.printer.proofs.Writing.{refuses, same_ok}
use Rattle.merge.specs.declared.merged.Merged.{Merged}
use Rattle.merge.specs.Answers.{merged_of, weighed, written}
use Rattle.merge.specs.Law.{named_value, ReadsAsRecord, WhereMerged}
use Rattle.merge.specs.Merging.{bind_named_lem, bind_all, completed, with_pairs, with_record, merged_by, merged}

-- the step that an answer came through
stepped : {A B : Type 0} (x : Result A Refusal) (f : A → Result B Refusal) (y : B) → and_then x f ≡ Ok y → (u : A) × (x ≡ Ok u) × (f u ≡ Ok y)
stepped (Ok u) f y e = (u, refl, e)
stepped (Err r) f y e = absurd (refuses e)

made_of : {A B : Type 0} (f : A → B) (x : Result A Refusal) (y : B) → after f x ≡ Ok y → (u : A) × (x ≡ Ok u) × (f u ≡ y)
made_of f (Ok u) y e = (u, refl, same_ok e)
made_of f (Err r) y e = absurd (refuses e)

-- another row is as it was
elsewhere : (rows : List Row) (k j : ℕ) (r : Row) → (j ≡ k → ⊥) → value_at (set rows k r) j ≡ value_at rows j
elsewhere rows k j r ne = ap value_in (get_or-set_other rows k j r past ne)

-- a bind that is taken: the value that it had, and its hole
record Bound (m : Meaning) (d : Verdict) (st : State) (k : ℕ) (o : Option (List ℕ)) (st' : State) : Type 0 where
  value : List ℕ
  there : o ≡ Some value
  within : k < st.holes
  after_it : st' ≡ filled st k value

bound_by : (m : Meaning) (d : Verdict) (e : ℕ) (st : State) (k : ℕ) (o : Option (List ℕ)) (st' : State) → bind_named_lem m d e st k o ≡ Ok st' → Bound m d st k o st'
bound_by m d e st k None st' f = absurd (refuses f)
bound_by m d e st k (Some v) st' f =
    let untold : judged_by m d st k v ≡ None = grind arith in
    record { value = v; there = refl; within = in_range d untold; after_it = grind arith }
  where
    in_range : (d : Verdict) → judged_by m d st k v ≡ None → k < st.holes
    in_range (refused r) q = absurd (nothing (sym q))
    in_range (accepted n bodies) q = bind_within m bodies st.holes _ k v q

-- the pairs have a value of a name
abbrev Named : List Pair → List ℕ → Type 0
Named ps n = value_of n ps ≢ None

-- What the binds of the holes from k on leave, where the rows from k on were empty: each hole's row has the record's value of its name.
record Left (ps : List Pair) (st : State) (k : ℕ) (ns : List (List ℕ)) (st' : State) : Type 0 where
  before : (i : ℕ) → i < k → value_at st'.rows i ≡ value_at st.rows i
  from : (j : ℕ) → value_at st'.rows (k + j) ≡ named_value ps ns j
  each : All (Named ps) ns

no_value : {x : List ℕ} {o : Option (List ℕ)} → o ≡ Some x → o ≡ None → ⊥
no_value e f = nothing (sym f ∙ e)

left : (m : Meaning) (d : Verdict) (ps : List Pair) (e : ℕ) (st : State) (k : ℕ) (ns : List (List ℕ)) (st' : State) → st.holes ≤ length st.rows → ((j : ℕ) → value_at st.rows (k + j) ≡ []) → bind_all m d ps e st k ns ≡ Ok st' → Left ps st k ns st'
left m d ps e st k [] st' fits empty f =
    let same : st ≡ st' = same_ok f in
    record {
      before = λ i lt. ap (λ (x : State). value_at x.rows i) (sym same);
      from = λ j. ap (λ (x : State). value_at x.rows (k + j)) (sym same) ∙ empty j;
      each = All-nil (Named ps);
    }
left m d ps e st k (n ∷ ns) st' fits empty f =
    let s = stepped (bind_named_lem m d e st k (value_of n ps)) (λ x. bind_all m d ps e x (k + 1) ns) st' f in
    let b = bound_by m d e st k (value_of n ps) s.0 s.1 in
    let v = b.value in
    let rows₁ = set st.rows k (row_of (Some v)) in
    let next : bind_all m d ps e (filled st k v) (k + 1) ns ≡ Ok st' = ap (λ (x : State). bind_all m d ps e x (k + 1) ns) (sym b.after_it) ∙ s.2 in
    let long : length rows₁ ≡ length st.rows = length-set st.rows k (row_of (Some v)) in
    let lt : k < length st.rows = omega (arith, b.within) in
    let more = left m d ps e (filled st k v) (k + 1) ns st' (omega arith) (λ j. elsewhere st.rows k (k + 1 + j) _ (λ q. omega arith) ∙ ap (value_at st.rows) (omega arith) ∙ empty (1 + j)) next in
    record {
      before = λ i less. more.before i (omega arith) ∙ elsewhere st.rows k i _ (λ q. omega arith);
      from = by v b.there lt more;
      each = All-cons (Named ps) n ns (no_value b.there) more.each;
    }
  where
    by : (v : List ℕ) → value_of n ps ≡ Some v → k < length st.rows → Left ps (filled st k v) (k + 1) ns st' → (j : ℕ) → value_at st'.rows (k + j) ≡ named_value ps (n ∷ ns) j
    by v there lt more zero = ap (value_at st'.rows) (omega arith) ∙ more.before k (omega arith) ∙ stored st.rows k v lt ∙ ap value_or_none (sym there)
    by v there lt more (suc j) = ap (value_at st'.rows) (omega arith) ∙ more.from j

module _ (m : Meaning) (sound : Sound m) (t input : List ℕ) (place room : ℕ) (law : Law input place (read_at input place)) where
  -- a record that was merged
  pub read_as : (next : ℕ) (w : List ℕ) → merged m t input place room ≡ Ok (Some (next, w)) → ReadsAsRecord m t input place next w
  read_as next w e = by (verdict m t) refl e
    where
      pairs : (d : Verdict) (n : ℕ) → n ≤ 64 → (ps : List Pair) (end : ℕ) (after : ℕ) → read_at input place ≡ found ps end after → with_pairs m d t n room ps end after ≡ Ok (next, w) → ReadsAsRecord m t input place next w
      pairs d n few ps end nx there f =
          let s = stepped (bind_all m d ps end (opened n) 0 (names t)) (completed m t room nx) (next, w) f in
          let q = stepped (judged_finish s.0.holes s.0.owed) (λ _. after (λ u. (nx, u)) (printed m (value_at s.0.rows) t room)) (next, w) s.2 in
          let p = made_of (λ u. (nx, u)) (printed m (value_at s.0.rows) t room) (next, w) q.2 in
          let l = left m d ps end (opened n) 0 (names t) s.0 (omega (arith, length_blank 64)) (λ j. past_blank 64 (0 + j)) s.1 in
          let is : value_at s.0.rows ≡ named_value ps (names t) = fun_ext (λ k. ap (value_at s.0.rows) (omega arith) ∙ l.from k) in
          let text : p.0 ≡ w = ap (λ (x : ℕ × List ℕ). x.1) p.2 in
          let at : nx ≡ next = ap (λ (x : ℕ × List ℕ). x.0) p.2 in
          let back = printed_reads m sound (value_at s.0.rows) t room p.0 p.1 in
          let was = law.was ps end nx there in
          record {
            pairs = ps;
            good = was.good;
            stands = was.stands;
            after = sym at ∙ was.next_is;
            each_named = l.each;
            reads = subst (λ (v : ℕ → List ℕ). ReadsBack m v t w) is (subst (ReadsBack m (value_at s.0.rows) t) text back);
          }

      reading : (d : Verdict) (n : ℕ) → n ≤ 64 → (x : Answer) → read_at input place ≡ x → with_record m d t n room x ≡ Ok (Some (next, w)) → ReadsAsRecord m t input place next w
      reading d n few (found ps end nx) there f =
          let s = made_of (λ x. Some x) (with_pairs m d t n room ps end nx) (Some (next, w)) f in
          let same : s.0 ≡ (next, w) = the_same s.2 in
          pairs d n few ps end nx there (s.1 ∙ ap Ok same)
      reading d n few none there f = absurd (nothing (same_ok f))
      reading d n few (faulty q) there f = absurd (refuses f)

      by : (d : Verdict) → verdict m t ≡ d → merged_by d m t input place room ≡ Ok (Some (next, w)) → ReadsAsRecord m t input place next w
      by (refused r) h f = absurd (refuses f)
      by (accepted n bodies) h f = reading (accepted n bodies) n (accepted_is m t n bodies h).few (read_at input place) refl f

  pub merged_reads : (old new : List ℕ) → length old ≡ room → (r : Result (Option Merged) Fault) → merged_of r ≡ weighed (merged m t input place room) → new ≡ written old (merged m t input place room) → WhereMerged r (λ x. ReadsAsRecord m t input place x.next (take x.len new))
  merged_reads old new long (Err f) said is = tt
  merged_reads old new long (Ok None) said is = tt
  merged_reads old new long (Ok (Some x)) said is = go (merged m t input place room) refl said is
    where
      go : (y : Result (Option (ℕ × List ℕ)) Refusal) → merged m t input place room ≡ y → Ok (Some (x.next, x.len)) ≡ weighed y → new ≡ written old y → ReadsAsRecord m t input place x.next (take x.len new)
      go (Err q) h f g = absurd (refuses (sym f))
      go (Ok None) h f g = absurd (nothing (sym (same_ok f)))
      go (Ok (Some y)) h f g =
          let at : y.0 ≡ x.next = grind arith in
          let front : take x.len new ≡ y.1 = ap (λ (k : ℕ). take k new) (grind arith) ∙ ap (take (length y.1)) g ∙ take-append_seam y.1 (drop (length y.1) old) in
          subst (λ (u : List ℕ). ReadsAsRecord m t input place x.next u) (sym front) (subst (λ (k : ℕ). ReadsAsRecord m t input place k y.1) at (read_as y.0 y.1 h))
