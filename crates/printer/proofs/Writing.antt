-- A text that is written piece by piece.
use Rattle.std.proofs.Common.{◌≡◌, ℕ, zero, suc, ◌+◌, ◌-◌, ◌<◌, ◌≤◌, List, [], ◌∷◌, ◌++◌, length, get_or, set, take, drop, min, true, Some, None, Ok, Err, Result, sym, refl, ap, ◌∙◌, append_assoc, arith, length-append}
use Rattle.fault.specs.Refusal.{Refusal}
use Rattle.printer.specs.Passes.{and_then, spelt_out, prints, sets_out, fitting, overlaid, onward, framed}
use Rattle.template.proofs.Read.{reads_literal, reads_hole}
use Rattle.printer.proofs.Laid.{value_short}
use Rattle.printer.proofs.Printed.{prints_hole}
use Rattle.printer.specs.Printing.{in_room, after, output}
use Rattle.std.proofs.lemmas.Bool.{le-leb, cond-true}
use borrow.Rule.Slice.PartMut.{put_mid}
use Rattle.std.proofs.lemmas.List.{length-take-le, at_drop_more, at_drop_all}
use Rattle.host.specs.Meaning.{Meaning, Brackets}
use Rattle.host.specs.declared.effect.Effect.{Effect}
use Rattle.host.specs.declared.effect.Recipe.{Recipe}
use Rattle.host.specs.Answers.{recipe_of, brackets_of}
use Rattle.template.specs.Judging.{crossing}
use Rattle.template.specs.Lexing.{Lexed, byte, hole}

pub refuses : {A : Type 0} {r : Refusal} {x : A} → Err r ≡ Ok x → ⊥
refuses e = cc

pub same_ok : {A : Type 0} {x y : A} → ◌≡◌ {A = Result A Refusal} (Ok x) (Ok y) → x ≡ y
same_ok e = cc

-- bytes after bytes
pub overlaid_more : (old : List ℕ) (at n : ℕ) (w s : List ℕ) → n ≡ at + length w → overlaid (overlaid old at w) n s ≡ overlaid old at (w ++ s)
overlaid_more [] at n w s e = refl
overlaid_more (b ∷ bs) (suc at) zero w s e = absurd (omega arith)
overlaid_more (b ∷ bs) (suc at) (suc n) w s e = ap (λ l. b ∷ l) (overlaid_more bs at n w s (omega arith))
overlaid_more (b ∷ bs) zero zero [] s e = refl
overlaid_more (b ∷ bs) zero (suc n) [] s e = absurd (omega arith)
overlaid_more (b ∷ bs) zero zero (x ∷ xs) s e = absurd (omega arith)
overlaid_more (b ∷ bs) zero (suc n) (x ∷ xs) s e = ap (λ l. x ∷ l) (overlaid_more bs zero n xs s (omega arith))

-- a text from the start, where there is room for it
overlaid_start : (old w : List ℕ) → length w ≤ length old → overlaid old 0 w ≡ w ++ drop (length w) old
overlaid_start [] [] h = refl
overlaid_start [] (x ∷ xs) h = absurd (omega arith)
overlaid_start (b ∷ bs) [] h = refl
overlaid_start (b ∷ bs) (x ∷ xs) h = ap (λ l. x ∷ l) (overlaid_start bs xs (omega arith))

overlaid_part : (old : List ℕ) (at : ℕ) (w : List ℕ) → at + length w ≤ length old → overlaid old at w ≡ take at old ++ (w ++ drop (length w) (drop at old))
overlaid_part [] zero [] h = refl
overlaid_part [] zero (x ∷ xs) h = absurd (omega arith)
overlaid_part [] (suc at) w h = absurd (omega arith)
overlaid_part (b ∷ bs) (suc at) w h = ap (λ l. b ∷ l) (overlaid_part bs at w (omega arith))
overlaid_part (b ∷ bs) zero [] h = refl
overlaid_part (b ∷ bs) zero (x ∷ xs) h = ap (λ l. x ∷ l) (overlaid_part bs zero xs (omega arith))

overlaid_cut : (old : List ℕ) (at n : ℕ) (w : List ℕ) → min (length w) (length old - at) ≤ n → overlaid old at (take n w) ≡ overlaid old at w
overlaid_cut [] at n w h = refl
overlaid_cut (b ∷ bs) (suc at) n w h = ap (λ l. b ∷ l) (overlaid_cut bs at n w (omega arith))
overlaid_cut (b ∷ bs) zero zero [] h = refl
overlaid_cut (b ∷ bs) zero (suc n) [] h = refl
overlaid_cut (b ∷ bs) zero zero (x ∷ xs) h = absurd (omega arith)
overlaid_cut (b ∷ bs) zero (suc n) (x ∷ xs) h = ap (λ l. x ∷ l) (overlaid_cut bs zero n xs (omega arith))

pub overlaid_past : (old : List ℕ) (at : ℕ) (w : List ℕ) → length old ≤ at → overlaid old at w ≡ old
overlaid_past [] at w h = refl
overlaid_past (b ∷ bs) (suc at) w h = ap (λ l. b ∷ l) (overlaid_past bs at w (omega arith))
overlaid_past (b ∷ bs) zero w h = absurd (omega arith)

-- as much of the bytes as there is room for, as a copy into a part of the output leaves it
pub overlaid_copy : (old w new : List ℕ) (at room : ℕ) → at < length old → room ≡ min (length w) (length old - at) → new ≡ take room w → put_mid at (at + room - at) old new ≡ overlaid old at w
overlaid_copy old w new at room lt is e =
    let long : length (take room w) ≡ room = length-take-le room w (omega arith) in
    let n : at + room - at ≡ length (take room w) = omega arith in
    let part = overlaid_part old at (take room w) (omega arith) in
    rw (e, n, ← part) (overlaid_cut old at room w (omega arith))

pub onward_more : (at : ℕ) (out w : List ℕ) (x : Result (List ℕ) Refusal) → onward at out (after (λ t. w ++ t) x) ≡ onward (at + length w) (overlaid out at w) x
onward_more at out w (Ok t) = rw (overlaid_more out at (at + length w) w t refl, length-append) (ap Ok (ap (λ n. (n, overlaid out at (w ++ t))) (omega arith)))
onward_more at out w (Err r) = refl

-- nothing is left
overlaid_none : (old : List ℕ) (at : ℕ) → overlaid old at [] ≡ old
overlaid_none [] at = refl
overlaid_none (b ∷ bs) zero = refl
overlaid_none (b ∷ bs) (suc at) = ap (λ l. b ∷ l) (overlaid_none bs at)

-- one byte
pub overlaid_byte : (old : List ℕ) (at b : ℕ) → at < length old → set old at b ≡ overlaid old at (b ∷ [])
overlaid_byte [] at b h = absurd (omega arith)
overlaid_byte (x ∷ xs) zero b h = ap (λ l. b ∷ l) (sym (overlaid_none xs zero))
overlaid_byte (x ∷ xs) (suc at) b h = ap (λ l. x ∷ l) (overlaid_byte xs at b (omega arith))

-- bytes from the byte i on
module _ (old : List ℕ) (at : ℕ) (bs : List ℕ) (i : ℕ) where
  pub overlaid_step : i < length bs → overlaid (overlaid old at (get_or bs i 0 ∷ [])) (at + 1) (drop (i + 1) bs) ≡ overlaid old at (drop i bs)
  overlaid_step lt = overlaid_more old at (at + 1) (get_or bs i 0 ∷ []) (drop (i + 1) bs) refl ∙ sym (at_drop_more (λ l. overlaid old at l) bs i 0 lt)

  pub overlaid_done : length bs ≤ i → overlaid old at (drop i bs) ≡ old
  overlaid_done le = at_drop_all (λ l. overlaid old at l) bs i le ∙ overlaid_none old at

pub onward_none : (at : ℕ) (out : List ℕ) → onward at out (Ok []) ≡ Ok (at, out)
onward_none at out = rw (overlaid_none out at) (ap (λ n. Ok (n, out)) (omega arith))

-- a value from its byte i on
module _ (m : Meaning) (c k i : ℕ) (bs : List ℕ) (end : ℕ) (out : List ℕ) where
  pub onward_byte : (s : List ℕ) → i < length bs → m.spelling c (get_or bs i 0) ≡ Some s → onward end out (spelt_out m c k i (drop i bs)) ≡ onward (end + length s) (overlaid out end s) (spelt_out m c k (i + 1) (drop (i + 1) bs))
  onward_byte s lt e = at_drop_more (λ l. onward end out (spelt_out m c k i l)) bs i 0 lt ∙ rw e (onward_more end out s _)

  pub onward_all : length bs ≤ i → onward end out (spelt_out m c k i (drop i bs)) ≡ Ok (end, out)
  onward_all le = at_drop_all (λ l. onward end out (spelt_out m c k i l)) bs i le ∙ onward_none end out

-- the closer after a value
pub onward_closer : (b : Brackets) (x : Result (List ℕ) Refusal) (at e : ℕ) (out o : List ℕ) → Ok (e, o) ≡ onward (at + length b.opener) (overlaid out at b.opener) x → Ok (e + length b.closer, overlaid o e b.closer) ≡ onward at out (framed b x)
onward_closer b (Ok w) at e out o h =
    let whole = onward_more at out b.opener (Ok (w ++ b.closer)) ∙ onward_more (at + length b.opener) (overlaid out at b.opener) w (Ok b.closer) in
    let same = same_ok h in
    let i : e ≡ at + length b.opener + length w = ap (λ (y : ℕ × List ℕ). y.0) same in
    let j : o ≡ overlaid (overlaid out at b.opener) (at + length b.opener) w = ap (λ (y : ℕ × List ℕ). y.1) same in
    rw (i, j) (sym whole)
onward_closer b (Err r) at e out o h = cc

-- an item, and what follows it
onward_frame : (b : Brackets) (x z : Result (List ℕ) Refusal) (at e : ℕ) (out o : List ℕ) → Ok (e, o) ≡ onward at out (framed b x) → onward at out (and_then x (λ w. after (λ t. b.opener ++ (w ++ (b.closer ++ t))) z)) ≡ onward e o z
onward_frame b (Err r) z at e out o h = cc
onward_frame b (Ok w) (Err r) at e out o h = refl
onward_frame b (Ok w) (Ok t) at e out o h =
    let frame = b.opener ++ (w ++ b.closer) in
    let same = same_ok h in
    let i : e ≡ at + length frame = ap (λ (y : ℕ × List ℕ). y.0) same in
    let j : o ≡ overlaid out at frame = ap (λ (y : ℕ × List ℕ). y.1) same in
    let group : b.opener ++ (w ++ (b.closer ++ t)) ≡ frame ++ t = simp append_assoc in
    rw (i, j) (ap (λ s. onward at out (Ok s)) group ∙ onward_more at out frame (Ok t))

module _ (m : Meaning) (v : ℕ → List ℕ) (whole rest : Lexed) (p k c at : ℕ) (out : List ℕ) where
  pub onward_literal : (b : ℕ) (s : ℕ × Effect) → whole ≡ byte p b rest → m.step c b ≡ Some s → onward at out (prints m v whole k c) ≡ onward (at + 1) (overlaid out at (b ∷ [])) (prints m v rest k s.0)
  onward_literal b s is e = rw (is, e) (onward_more at out (b ∷ []) _)

  pub onward_hole : (n : List ℕ) (r : Recipe) (x : ℕ × ℕ) (e : ℕ) (o : List ℕ) → whole ≡ hole p n rest → recipe_of r ≡ m.recipe c → crossing m c ≡ Some x → Ok (e, o) ≡ onward at out (framed (brackets_of r) (spelt_out m r.body k 0 (v k))) → onward at out (prints m v whole k c) ≡ onward e o (prints m v rest (k + 1) x.1)
  onward_hole n r x e o is f g h = rw (is, prints_hole m v rest p k c n r x f g) (onward_frame (brackets_of r) _ _ at e out o h)

-- the same by the contexts that the holes stand in
module _ (m : Meaning) (cs : ℕ → ℕ) (v : ℕ → List ℕ) (whole rest : Lexed) (p k at : ℕ) (out : List ℕ) where
  pub onward_plain : (b : ℕ) → whole ≡ byte p b rest → onward at out (sets_out m cs v whole k) ≡ onward (at + 1) (overlaid out at (b ∷ [])) (sets_out m cs v rest k)
  onward_plain b is = rw is (onward_more at out (b ∷ []) _)

  pub onward_framed : (n : List ℕ) (r : Recipe) (e : ℕ) (o : List ℕ) → whole ≡ hole p n rest → recipe_of r ≡ m.recipe (cs k) → r.takes ≡ true → Ok (e, o) ≡ onward at out (framed (brackets_of r) (spelt_out m r.body k 0 (v k))) → onward at out (sets_out m cs v whole k) ≡ onward e o (sets_out m cs v rest (k + 1))
  onward_framed n r e o is f g h = rw (is, ← f, cond-true r.takes (Some (brackets_of r)) None g) (onward_frame (brackets_of r) _ _ at e out o h)

-- a text that is measured, and then written over an output that has room for it
pub onward_whole : (n : ℕ) (none out new : List ℕ) (x : Result (List ℕ) Refusal) (y : Result ℕ Refusal) → Ok (n, none) ≡ onward 0 [] x → n ≤ length out → after (λ k. (k, new)) y ≡ onward 0 out x → new ≡ output out (fitting (length out) x)
onward_whole n none out new (Err r) y h fits e = cc
onward_whole n none out new (Ok w) (Err r) h fits e = cc
onward_whole n none out new (Ok w) (Ok k) h fits e =
    let long : n ≡ 0 + length w = ap (λ (z : ℕ × List ℕ). z.0) (same_ok h) in
    let le : length w ≤ length out = omega arith in
    ap (λ (z : ℕ × List ℕ). z.1) (same_ok e) ∙ overlaid_start out w le ∙ sym (ap (λ t. output out (in_room t w)) (le-leb (length w) (length out) le))

-- one turn of the walk over a template
pub ruleset walking = (value_short, reads_literal, reads_hole, onward_literal, onward_hole, onward_none)

-- and by the contexts
pub ruleset setting_out = (reads_literal, reads_hole, onward_plain, onward_framed, onward_none)
