-- The texts of several merges read as their records.
use Rattle.std.proofs.Common.{◌≡◌, ℕ, zero, suc, ◌-◌, List, [], ◌∷◌, ◌++◌, length, take, drop, Some, None, Ok, Err, Option, Result, sym, refl, ap, ◌∙◌, subst, arith}
use lib.Seq.{take-append_seam}
use Rattle.host.specs.Meaning.{Meaning, Sound}
use Rattle.fault.specs.Refusal.{Refusal, of_template}
use Rattle.record.proofs.Laws.{reading_undoes_writing}
use Rattle.template.specs.Judging.{Verdict, refused, accepted, verdict}
use Rattle.merge.specs.declared.merged.Merges.{Merges}
use Rattle.merge.specs.Law.{ReadInARow, ReadsAsRecords}
use Rattle.merge.specs.Many.{Many, none_more, and_more, merged_on, merged_by_verdict, merged_many, many_told, many_weighed, many_written}
use Rattle.merge.specs.Merging.{merged}
use Rattle.merge.proofs.Laws.{read_as}

-- the same of what several merges come to
abbrev Rows : Meaning → List ℕ → List ℕ → ℕ → Many → Type 0
Rows m t input place ms = ReadsAsRecords m t input place ms.next ms.count ms.text

module _ (m : Meaning) (sound : Sound m) (t input : List ℕ) where
  no_rows : (place : ℕ) (r : Option Refusal) → Rows m t input place (none_more place r)
  no_rows place r = record { texts = []; as_many = refl; whole = refl; in_a_row = refl }

  -- one more before others
  row_more : (place room : ℕ) (more : ℕ → ℕ → Many) → ((next len : ℕ) → Rows m t input next (more next len)) → (y : Result (Option (ℕ × List ℕ)) Refusal) → merged m t input place room ≡ y → Rows m t input place (and_more y place more)
  row_more place room more rest (Ok None) e = no_rows place None
  row_more place room more rest (Err r) e = no_rows place (Some r)
  row_more place room more rest (Ok (Some x)) e =
      let others = rest x.0 (length x.1) in
      record {
        texts = x.1 ∷ others.texts;
        as_many = ap suc others.as_many ∙ omega arith;
        whole = ap (λ (l : List ℕ). x.1 ++ l) others.whole;
        in_a_row = (x.0, read_as m sound t input place room (reading_undoes_writing input place) x.0 x.1 e, others.in_a_row);
      }

  rows : (most place room : ℕ) → Rows m t input place (merged_on m t input most place room)
  rows zero place room = no_rows place None
  rows (suc most) place room = row_more place room (λ next len. merged_on m t input most next (room - len)) (λ next len. rows most next (room - len)) (merged m t input place room) refl

  all_rows : (d : Verdict) (most place room : ℕ) → Rows m t input place (merged_by_verdict d m t input most place room)
  all_rows (refused r) most place room = no_rows place (Some (of_template r))
  all_rows (accepted n bodies) most place room = rows most place room

  pub many_read : (place most : ℕ) (old new : List ℕ) (s : Merges) → many_told s ≡ many_weighed (merged_many m t input place most (length old)) → new ≡ many_written old (merged_many m t input place most (length old)) → ReadsAsRecords m t input place s.next s.count (take s.len new)
  many_read place most old new s said is =
      let ms = merged_many m t input place most (length old) in
      let r = all_rows (verdict m t) most place (length old) in
      let count : s.count ≡ ms.count = ap (λ (x : ℕ × ℕ × ℕ × Option Refusal). x.0) said in
      let next : s.next ≡ ms.next = ap (λ (x : ℕ × ℕ × ℕ × Option Refusal). x.1) said in
      let len : s.len ≡ length ms.text = ap (λ (x : ℕ × ℕ × ℕ × Option Refusal). x.2) said in
      let front : take s.len new ≡ ms.text = ap (λ (k : ℕ). take k new) len ∙ ap (take (length ms.text)) is ∙ take-append_seam ms.text (drop (length ms.text) old) in
      record {
        texts = r.texts;
        as_many = r.as_many ∙ sym count;
        whole = r.whole ∙ sym front;
        in_a_row = subst (λ (k : ℕ). ReadInARow m t input place k r.texts) (sym next) r.in_a_row;
      }
