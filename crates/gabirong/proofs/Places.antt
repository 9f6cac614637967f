-- How far a record reaches in its input, and its text in the output.
use Rattle.std.proofs.Common.{◌≡◌, ℕ, ◌+◌, ◌<◌, ◌≤◌, List, [], ◌∷◌, length, length-append, take, Some, None, Ok, Err, Option, Result, ap, arith}
use Rattle.fault.specs.Refusal.{Refusal}
use Rattle.host.specs.Meaning.{Meaning}
use Rattle.record.specs.Format.{Pair, packed, Stands}
use Rattle.merge.specs.declared.merged.Merged.{Merged}
use Rattle.merge.specs.Answers.{merged_of, measured, weighed, written}
use Rattle.merge.specs.Law.{ReadsAsRecord, WhereMerged}

at_least_three : (ps : List Pair) → 3 ≤ length (packed ps)
at_least_three [] = omega arith
at_least_three (p ∷ ps) = omega arith

-- The place after a record lies beyond its own, and in the input.
pub reaches : (ps : List Pair) (input : List ℕ) (place next : ℕ) → Stands ps input place → next ≡ place + length (packed ps) → (place < next) × (next ≤ length input)
reaches ps input place next s e =
    let long = at_least_three ps in
    let whole = simp length-append at (ap length s.is) in
    (omega arith, omega arith)

-- So does the place after a record that is merged.
pub moves_on : (m : Meaning) (t input out : List ℕ) (place : ℕ) (o : Option Merged) (x : Merged) → WhereMerged (Ok o) (λ x. ReadsAsRecord m t input place x.next (take x.len out)) → o ≡ Some x → (place < x.next) × (x.next ≤ length input)
moves_on m t input out place o x w e =
    let r : ReadsAsRecord m t input place x.next (take x.len out) = rw e at w in
    reaches r.pairs input place x.next r.stands r.after

-- The text that is merged lies in the output.
pub fits : (o : Option Merged) (x : Merged) (y : Result (Option (ℕ × List ℕ)) Refusal) (old new : List ℕ) → merged_of (Ok o) ≡ weighed y → new ≡ written old y → o ≡ Some x → x.len ≤ length new
fits o x (Ok (Some z)) old new same is e =
    let told : Ok (Some (x.next, x.len)) ≡ weighed (Ok (Some z)) = rw e at same in
    let pair : (x.next, x.len) ≡ measured z = cc in
    let long = ap (λ (p : ℕ × ℕ). p.1) pair in
    let whole = simp length-append at (ap length is) in
    omega arith
fits o x (Ok None) old new same is e = cc
fits o x (Err r) old new same is e = cc
