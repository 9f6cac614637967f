-- How far merging several records has come.
use Rattle.std.proofs.Common.{◌≡◌, ℕ, suc, ◌+◌, ◌-◌, ◌<◌, ◌≤◌, List, [], ◌++◌, length, take, drop, Some, None, Ok, Err, Option, Result, sym, refl, ap, ap₂, ◌∙◌, subst, append_assoc, append-nil, length-append, arith}
use Rattle.std.proofs.lemmas.List.{take-append-drop, length-take-le, drop-drop}
use lib.Seq.{take-append_seam, drop-append_seam}
use Rattle.host.specs.Meaning.{Meaning}
use Rattle.fault.specs.Refusal.{Refusal}
use Rattle.printer.proofs.Writing.{refuses, same_ok}
use Rattle.template.proofs.Reading.{nothing}
use Rattle.merge.specs.declared.merged.Merged.{Merged}
use Rattle.merge.specs.Answers.{told_of, weighed, written}
use Rattle.merge.specs.Many.{Many, none_more, before, and_more, merged_on, many_weighed, many_written}
use Rattle.merge.specs.Merging.{merged}

-- The records so far stand before those that are left: the output has their texts, and is as it was behind them.
pub record Sofar (whole rest : Many) (old out : List ℕ) (count len : ℕ) : Type 0 where
  pub same : whole ≡ before count (take len out) rest
  pub kept : drop len out ≡ drop len old
  pub within : len ≤ length out
  pub long : length out ≡ length old

pub started : (whole : Many) (old : List ℕ) → Sofar whole whole old old 0 0
started whole old =
    let none : whole.count ≡ 0 + whole.count = omega arith in
    record {
      same = ap (λ (k : ℕ). let r : Many = record { count = k; next = whole.next; text = whole.text; refusal = whole.refusal } in r) none;
      kept = refl;
      within = omega arith;
      long = refl;
    }

-- nothing is left
pub ended : (whole : Many) (old out : List ℕ) (count len next : ℕ) (r : Option Refusal) → Sofar whole (none_more next r) old out count len → ((count, next, len, r) ≡ many_weighed whole) × (out ≡ many_written old whole)
ended whole old out count len next r s =
    let front = take len out in
    let long : length front ≡ len = length-take-le len out s.within in
    let text : front ++ [] ≡ front = append-nil front in
    let whole_is : whole ≡ record { count = count; next = next; text = front; refusal = r } = s.same ∙ ap₂ (λ (k : ℕ) (w : List ℕ). let x : Many = record { count = k; next = next; text = w; refusal = r } in x) (omega arith) text in (
      sym (ap many_weighed whole_is ∙ ap (λ (k : ℕ). (count, next, k, r)) long),
      sym (ap (many_written old) whole_is ∙ ap (λ (k : ℕ). front ++ drop k old) long ∙ ap (λ (l : List ℕ). front ++ l) (sym s.kept) ∙ take-append-drop len out),
    )

module _ (m : Meaning) (t input : List ℕ) (whole : Many) (old out new : List ℕ) (count len next most : ℕ) (lt : count < most) where
  abbrev k : ℕ
  k = most - (count + 1)

  abbrev one : Result (Option (ℕ × List ℕ)) Refusal
  one = merged m t input next (length out - len)

  abbrev Before : Type 0
  Before = Sofar whole (merged_on m t input (most - count) next (length old - len)) old out count len

  -- what the next record comes to is at the front of what is left
  ahead : (y : Result (Option (ℕ × List ℕ)) Refusal) → one ≡ y → Before → Sofar whole (and_more y next (λ n l. merged_on m t input k n (length old - len - l))) old out count len
  ahead y e s =
      let room : length out - len ≡ length old - len = ap (λ (n : ℕ). n - len) s.long in
      let more = λ (n l : ℕ). merged_on m t input k n (length old - len - l) in
      let left : most - count ≡ suc k = omega (arith, lt) in
      let rest : merged_on m t input (most - count) next (length old - len) ≡ and_more y next more = ap (λ (n : ℕ). merged_on m t input n next (length old - len)) left ∙ ap (λ z. and_more z next more) (ap (merged m t input next) (sym room) ∙ e) in
      subst (λ (r : Many). Sofar whole r old out count len) rest s

  unmoved : (y : Result (Option (ℕ × List ℕ)) Refusal) → written (drop len out) y ≡ drop len out → new ≡ take len out ++ written (drop len out) y → new ≡ out
  unmoved y e is = is ∙ ap (λ (l : List ℕ). take len out ++ l) e ∙ take-append-drop len out

  pub stopped_at_end : Before → Ok None ≡ weighed one → new ≡ take len out ++ written (drop len out) one → Sofar whole (none_more next None) old new count len
  stopped_at_end s said is = go one refl said is
    where
      go : (y : Result (Option (ℕ × List ℕ)) Refusal) → one ≡ y → Ok None ≡ weighed y → new ≡ take len out ++ written (drop len out) y → Sofar whole (none_more next None) old new count len
      go (Ok None) e f g = subst (λ (o : List ℕ). Sofar whole (none_more next None) old o count len) (sym (unmoved (Ok None) refl g)) (ahead (Ok None) e s)
      go (Ok (Some x)) e f g = absurd (nothing (same_ok f))
      go (Err q) e f g = absurd (refuses (sym f))

  pub stopped_by : (r : Refusal) → Before → Err r ≡ weighed one → new ≡ take len out ++ written (drop len out) one → Sofar whole (none_more next (Some r)) old new count len
  stopped_by r s said is = go one refl said is
    where
      go : (y : Result (Option (ℕ × List ℕ)) Refusal) → one ≡ y → Err r ≡ weighed y → new ≡ take len out ++ written (drop len out) y → Sofar whole (none_more next (Some r)) old new count len
      go (Ok None) e f g = absurd (refuses f)
      go (Ok (Some x)) e f g = absurd (refuses f)
      go (Err q) e f g =
          let same : q ≡ r = cc in
          subst (λ (o : List ℕ). Sofar whole (none_more next (Some r)) old o count len) (sym (unmoved (Err q) refl g)) (subst (λ (p : Refusal). Sofar whole (none_more next (Some p)) old out count len) same (ahead (Err q) e s))

  pub merged_one : (x : Merged) → Before → Ok (Some (told_of x)) ≡ weighed one → new ≡ take len out ++ written (drop len out) one → length new ≡ length out → Sofar whole (merged_on m t input k x.next (length old - (len + x.len))) old new (count + 1) (len + x.len)
  merged_one x s said is sized = go one refl said is
    where
      by : (n : ℕ) (w : List ℕ) → x.next ≡ n → x.len ≡ length w → Sofar whole (before 1 w (merged_on m t input k n (length old - len - length w))) old out count len → new ≡ take len out ++ (w ++ drop (length w) (drop len out)) → Sofar whole (merged_on m t input k x.next (length old - (len + x.len))) old new (count + 1) (len + x.len)
      by n w at size a g =
          let R = merged_on m t input k n (length old - len - length w) in
          let front = take len out ++ w in
          let long : length front ≡ len + x.len = length-append (take len out) w ∙ ap (λ (j : ℕ). j + length w) (length-take-le len out s.within) ∙ ap (λ (j : ℕ). len + j) (sym size) in
          let seam : new ≡ front ++ drop (length w) (drop len out) = g ∙ sym (append_assoc (take len out) w _) in
          let taken : take (len + x.len) new ≡ front = ap₂ take (sym long) seam ∙ take-append_seam front _ in
          let dropped : drop (len + x.len) new ≡ drop (length w) (drop len out) = ap₂ drop (sym long) seam ∙ drop-append_seam front _ in
          let R_is : R ≡ merged_on m t input k x.next (length old - (len + x.len)) = ap₂ (merged_on m t input k) (sym at) (omega arith) in
          let text : take len out ++ (w ++ R.text) ≡ take (len + x.len) new ++ R.text = sym (append_assoc (take len out) w R.text) ∙ ap (λ (l : List ℕ). l ++ R.text) (sym taken) in
          let counted : count + (1 + R.count) ≡ count + 1 + R.count = omega arith in
          let whole_is : whole ≡ before (count + 1) (take (len + x.len) new) R = a.same ∙ ap₂ (λ (j : ℕ) (l : List ℕ). let z : Many = record { count = j; next = R.next; text = l; refusal = R.refusal } in z) counted text in
          let behind : drop (length w) (drop len old) ≡ drop (len + x.len) old = drop-drop (length w) len old ∙ ap (λ (j : ℕ). drop j old) (omega arith) in
          record {
            same = whole_is ∙ ap (before (count + 1) (take (len + x.len) new)) R_is;
            kept = dropped ∙ ap (drop (length w)) s.kept ∙ behind;
            within = omega (arith, ap length seam, length-append front (drop (length w) (drop len out)), long);
            long = sized ∙ s.long;
          }

      go : (y : Result (Option (ℕ × List ℕ)) Refusal) → one ≡ y → Ok (Some (told_of x)) ≡ weighed y → new ≡ take len out ++ written (drop len out) y → Sofar whole (merged_on m t input k x.next (length old - (len + x.len))) old new (count + 1) (len + x.len)
      go (Ok None) e f g = absurd (nothing (sym (same_ok f)))
      go (Ok (Some y)) e f g = by y.0 y.1 (grind arith) (grind arith) (ahead (Ok (Some y)) e s) g
      go (Err q) e f g = absurd (refuses (sym f))
