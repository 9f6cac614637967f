-- How long a text can be.
use Rattle.std.proofs.Common.{◌≡◌, ℕ, ◌+◌, ◌*◌, ◌<◌, ◌≤◌, Bool, true, false, ltb, leb, List, [], ◌∷◌, map, length, Some, None, Ok, Option, refl, ap, arith, length-append}
use Rattle.std.specs.List.{flat_map, AllByRecursion}
use Rattle.std.proofs.lemmas.Bool.{and_parts, ltb-true}
use Rattle.host.specs.Meaning.{Meaning, Sound}
use Rattle.host.specs.Run.{start, text}
use Rattle.host.specs.Promise.{literals, holes}
use Rattle.host.proofs.Lengths.{text_length_bounded_lem}
use Rattle.host.proofs.Readings.{text_reads_as_plan_lem}
use Rattle.host.proofs.Marks.{plan_marks_holes_lem}
use Rattle.template.specs.Notation.{Piece, itself, escape, named, written, proper, item, name_from}
use Rattle.template.specs.Judging.{Verdict, refused, accepted, verdict}
use Rattle.template.specs.Items.{items}
use Rattle.template.proofs.Plans.{accepted_acceptable}
use Rattle.template.proofs.Accepted.{accepted_is, items_of_pieces}
use Rattle.printer.specs.Printing.{in_room, printed_as, printed_by, printed, ReadsBack}

-- a literal stands for at least one byte of its template, and a hole for at least four
size_written : (ps : List Piece) → AllByRecursion proper ps → literals (map item ps) + 4 * holes (map item ps) ≤ length (flat_map written ps)
size_written [] ok = omega arith
size_written (itself b ∷ ps) ok = omega (arith, size_written ps ok.1, length-append (written (itself b)) (flat_map written ps))
size_written (escape e ∷ ps) ok = omega (arith, size_written ps ok.1, length-append (written (escape e)) (flat_map written ps))
size_written (named n ∷ ps) ok =
    let some : 0 < length n = ltb-true 0 (length n) (and_parts (ltb 0 (length n)) (name_from 0 n) ok.0).0 in
    omega (arith, size_written ps ok.1, length-append (written (named n)) (flat_map written ps), length-append n (125 ∷ []))

module _ (m : Meaning) (sound : Sound m) (v : ℕ → List ℕ) (t : List ℕ) where
  -- a text that is printed
  text_of : (room : ℕ) (w : List ℕ) (first : ℕ × ℕ) (o : Option (List ℕ)) → printed_as o first room ≡ Ok w → o ≡ Some w
  text_of room w first None e = cc
  text_of room w first (Some u) e = ap Some (fits (leb (length u) room) e)
    where
      fits : (b : Bool) → in_room b u ≡ Ok w → u ≡ w
      fits true f = cc
      fits false f = cc

  record Taken (w : List ℕ) : Type 0 where
    count : ℕ
    bodied : List ℕ
    judged : verdict m t ≡ accepted count bodied
    is : text m v (items t) 0 start ≡ Some w

  taken : (room : ℕ) (w : List ℕ) → printed m v t room ≡ Ok w → Taken w
  taken room w e = go (verdict m t) refl e
    where
      go : (d : Verdict) → verdict m t ≡ d → printed_by d m v t room ≡ Ok w → Taken w
      go (refused r) h f = cc
      go (accepted n bs) h f = record { count = n; bodied = bs; judged = h; is = text_of room w _ (text m v (items t) 0 start) f }

  pub printed_reads : (room : ℕ) (w : List ℕ) → printed m v t room ≡ Ok w → ReadsBack m v t w
  printed_reads room w e =
      let k = taken room w e in
      let a = accepted_is m t k.count k.bodied k.judged in
      record {
        tokens = a.tokens;
        planned = a.planned;
        marked = plan_marks_holes_lem m sound (items t) a.tokens a.planned;
        reads = text_reads_as_plan_lem m sound (items t) v a.tokens w a.planned k.is;
      }

  pub printed_short : ((k : ℕ) → length (v k) ≤ 160) → (room : ℕ) (w : List ℕ) → printed m v t room ≡ Ok w → length w ≤ 65280
  printed_short few room w e =
      let k = taken room w e in
      let a = accepted_acceptable m t k.count k.bodied k.judged in
      let b = accepted_is m t k.count k.bodied k.judged in
      let is = (items_of_pieces t a.pieces a.notation).0 in
      let size = size_written a.pieces a.notation.well in
      let long = ap length a.notation.spelled in
      let size_is : literals (items t) + 4 * holes (items t) ≤ length t = omega (arith, size, long, ap literals is, ap holes is) in
      let bound = text_length_bounded_lem m sound (items t) v w (literals (items t)) (holes (items t)) 160 (omega arith) (omega arith) (λ j lt. few j) k.is in
      omega (arith, bound, size_is, a.short, b.count, b.few)
