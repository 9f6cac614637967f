-- What a survey under the host of a sheet says of the template.
use Rattle.std.proofs.Common.{◌≡◌, ℕ, ◌≤◌, List, ◌++◌, length, take, drop, IfOk, Ok, Err, Result, sym, refl, ap, ◌∙◌, subst, arith}
use lib.Seq.{take-append_seam}
use Rattle.host.specs.Meaning.{Meaning, Sound}
use Rattle.fault.specs.declared.fault.Fault.{Fault}
use Rattle.fault.specs.Refusal.{Refusal, told}
use Rattle.template.specs.Judging.{Verdict, refused, accepted}
use Rattle.printer.specs.Calls.{fitting_host}
use Rattle.printer.specs.Printing.{printed, weight, output, ReadsBack}
use Rattle.printer.proofs.Writing.{same_ok}
use Rattle.printer.proofs.Bound.{printed_reads, printed_short}

-- the host accepts the template
pub host_takes : (d : Verdict) (n : ℕ) (bs : List ℕ) → Ok (n, bs) ≡ fitting_host d → d ≡ accepted n bs
host_takes (refused r) n bs e = cc
host_takes (accepted k cs) n bs e = sym (ap (λ (x : ℕ × List ℕ). accepted x.0 x.1) (same_ok e))

-- what a print that agrees with `printed` says
module _ (m : Meaning) (sound : Sound m) (v : ℕ → List ℕ) (t old new : List ℕ) (r : Result ℕ Fault) (said : told r ≡ weight (printed m v t (length old))) (is : new ≡ output old (printed m v t (length old))) where
  whole : (n : ℕ) → r ≡ Ok n → (w : List ℕ) × (printed m v t (length old) ≡ Ok w) × (n ≡ length w) × (new ≡ w ++ drop (length w) old)
  whole n e = go (printed m v t (length old)) refl (sym (ap told e) ∙ said) is
    where
      go : (x : Result (List ℕ) Refusal) → printed m v t (length old) ≡ x → Ok n ≡ weight x → new ≡ output old x → (w : List ℕ) × (printed m v t (length old) ≡ Ok w) × (n ≡ length w) × (new ≡ w ++ drop (length w) old)
      go (Ok w) h f g = (w, h, cc, g)
      go (Err q) h f g = cc

  pub reads_back : IfOk r (λ n. ReadsBack m v t (take n new))
  reads_back = go r refl
    where
      go : (x : Result ℕ Fault) → r ≡ x → IfOk x (λ n. ReadsBack m v t (take n new))
      go (Err f) e = tt
      go (Ok n) e =
          let w = whole n e in
          let front : take n new ≡ w.0 = ap (λ (k : ℕ). take k new) w.2 ∙ ap (take (length w.0)) w.3 ∙ take-append_seam w.0 (drop (length w.0) old) in
          subst (ReadsBack m v t) (sym front) (printed_reads m sound v t (length old) w.0 w.1)

  pub is_short : ((k : ℕ) → length (v k) ≤ 160) → IfOk r (λ n. n ≤ 65280)
  is_short few = go r refl
    where
      go : (x : Result ℕ Fault) → r ≡ x → IfOk x (λ n. n ≤ 65280)
      go (Err f) e = tt
      go (Ok n) e = let w = whole n e in omega (arith, printed_short m sound v t few (length old) w.0 w.1, w.2)
