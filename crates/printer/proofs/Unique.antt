-- A state holds one slate at most.
use Rattle.std.proofs.Common.{◌≡◌, ℕ, ◌-◌, List, [], ◌∷◌, ◌++◌, map, length, Some, None, Option, sym, refl, ap, ◌∙◌, ap₂, arith}
use lib.Seq.{take-append_seam}
use Rattle.std.proofs.lemmas.List.{append_cancel_right}
use Rattle.printer.specs.Rows.{zeros, row_of, blank, value_in}
use Rattle.printer.specs.Slate.{Slate, digit}
use Rattle.printer.specs.Held.{owed_map, OneSlate}
use Rattle.printer.proofs.Bitmap.{digit_lt}

same_entry : (s t : Option (List ℕ)) → digit s ≡ digit t → row_of s ≡ row_of t → s ≡ t
same_entry None None d r = refl
same_entry None (Some w) d r = absurd (omega arith)
same_entry (Some v) None d r = absurd (omega arith)
same_entry (Some v) (Some w) d r =
    ap (λ (x : List ℕ). Some x) (sym (take-append_seam v (zeros (160 - length v))) ∙ ap value_in r ∙ take-append_seam w (zeros (160 - length w)))

same_slate : (ss ts : Slate) → length ss ≡ length ts → owed_map ss ≡ owed_map ts → map row_of ss ≡ map row_of ts → ss ≡ ts
same_slate [] [] l m r = refl
same_slate [] (t ∷ ts) l m r = absurd (omega arith)
same_slate (s ∷ ss) [] l m r = absurd (omega arith)
same_slate (s ∷ ss) (t ∷ ts) l m r =
    let first : row_of s ≡ row_of t = cc in
    let rest : map row_of ss ≡ map row_of ts = cc in
    ap₂ (λ (x : Option (List ℕ)) (xs : Slate). x ∷ xs)
    (same_entry s t (omega (arith, digit_lt s, digit_lt t)) first)
    (same_slate ss ts (omega arith) (omega (arith, digit_lt s, digit_lt t)) rest)

pub one_slate_lem : OneSlate
one_slate_lem st ss ts h k =
    let long : length ss ≡ length ts = h.marks.count ∙ sym k.marks.count in
    let rows : map row_of ss ++ blank (64 - length ts) ≡ map row_of ts ++ blank (64 - length ts) =
    ap (λ (n : ℕ). map row_of ss ++ blank (64 - n)) (sym long) ∙ sym h.laid ∙ k.laid
    in
    same_slate ss ts long (sym h.marks.bits ∙ k.marks.bits) (append_cancel_right (map row_of ss) (map row_of ts) (blank (64 - length ts)) rows)
