-- What an item that was read tells of what is left of the template.
use Rattle.std.proofs.Common.{◌≡◌, ℕ, suc, ◌+◌, ◌≤◌, Bool, true, false, List, [], ◌∷◌, length, take, drop, Some, Ok, ◌==◌, refl, sym, ap, ◌∙◌, subst, arith}
use Rattle.std.proofs.lemmas.Bool.{cond-false}
use Rattle.std.proofs.lemmas.List.{drop-drop}
use Rattle.std.specs.List.{prefix_len}
use Rattle.template.specs.declared.item.Hole.{Hole}
use Rattle.template.specs.declared.item.Item.TheVariants.{Literal, Hole as gap}
use Rattle.template.specs.declared.items.Items.{Items}
use Rattle.template.specs.declared.items.Placed.{Placed}
use Rattle.template.proofs.Pieces.{step_move}
use Rattle.template.specs.Lexing.{byte, hole, then, between_pieces, lex, lexed_from, EndsAt, is_plain, literals}
use Rattle.template.specs.Walk.{Reads}

pub reads_hole : (s t : Items) (x : Placed) (h : Hole) (bs : List ℕ) → Reads s (Some (Ok x)) t → s.template.now ≡ bs → x.item ≡ gap h → lexed_from bs s.at ≡ hole h.place h.name.now (lexed_from bs t.at)
reads_hole s t x h bs r same is = ap (λ l. lexed_from l s.at) (sym same) ∙ sym r.reads ∙ ap (λ l. then x.item x.place (lexed_from l t.at)) same ∙ ap (λ i. then i x.place (lexed_from bs t.at)) is

pub hole_ends : (s t : Items) (x : Placed) (h : Hole) → Reads s (Some (Ok x)) t → x.item ≡ gap h → length s.template.now ≤ 3584 → h.place + length h.name.now + 3 ≤ 3584
hole_ends s t x h r is short =
    let at : h.place + length h.name.now + 3 ≡ t.at = subst (λ i. EndsAt i t.at) is r.onward.3 in
    omega (arith, at, r.onward.2, short)

pub reads_literal : (s t : Items) (x : Placed) (b : ℕ) (bs : List ℕ) → Reads s (Some (Ok x)) t → s.template.now ≡ bs → x.item ≡ Literal b → lexed_from bs s.at ≡ byte x.place b (lexed_from bs t.at)
reads_literal s t x b bs r same is = ap (λ l. lexed_from l s.at) (sym same) ∙ sym r.reads ∙ ap (λ l. then x.item x.place (lexed_from l t.at)) same ∙ ap (λ i. then i x.place (lexed_from bs t.at)) is

-- bytes up to the next at-sign
run_on : (bs : List ℕ) (b p : ℕ) (t : Bool) → (b == 64) ≡ t → lex between_pieces (p + 1) bs ≡ literals (p + 1) (take (prefix_len is_plain bs) bs) (lex between_pieces (p + 1 + prefix_len is_plain bs) (drop (prefix_len is_plain bs) bs)) → lex between_pieces p (b ∷ bs) ≡ literals p (take (prefix_len is_plain (b ∷ bs)) (b ∷ bs)) (lex between_pieces (p + prefix_len is_plain (b ∷ bs)) (drop (prefix_len is_plain (b ∷ bs)) (b ∷ bs)))
run_on bs b p true e more = rw e (ap (λ q. lex between_pieces q (b ∷ bs)) (omega arith))
run_on bs b p false e more =
    let one : 1 + prefix_len is_plain bs ≡ suc (prefix_len is_plain bs) = omega arith in
    step_move between_pieces p b bs _ (cond-false _ _ _ e) ∙ rw (e, one) (ap (byte p b) (more ∙ ap (λ q. literals (p + 1) (take (prefix_len is_plain bs) bs) (lex between_pieces q (drop (prefix_len is_plain bs) bs))) (omega arith)))

run : (bs : List ℕ) (p : ℕ) → lex between_pieces p bs ≡ literals p (take (prefix_len is_plain bs) bs) (lex between_pieces (p + prefix_len is_plain bs) (drop (prefix_len is_plain bs) bs))
run [] p = ap (λ q. lex between_pieces q []) (omega arith)
run (b ∷ bs) p = run_on bs b p (b == 64) refl (run bs (p + 1))

pub plain_run : (t : List ℕ) (at : ℕ) (rest : List ℕ) (n : ℕ) → rest ≡ drop at t → n ≡ prefix_len is_plain rest → lexed_from t at ≡ literals at (take n rest) (lexed_from t (at + n))
plain_run t at rest n is far =
    let same : drop n (drop at t) ≡ drop (at + n) t = drop-drop n at t ∙ ap (λ (q : ℕ). drop q t) (omega arith) in
    let here : n ≡ prefix_len is_plain (drop at t) = far ∙ ap (prefix_len is_plain) is in
    run (drop at t) at
    ∙ ap (λ k. literals at (take k (drop at t)) (lex between_pieces (at + k) (drop k (drop at t)))) (sym here)
    ∙ ap (λ bs. literals at (take n bs) (lex between_pieces (at + n) (drop n (drop at t)))) (sym is)
    ∙ ap (λ bs. literals at (take n rest) (lex between_pieces (at + n) bs)) same
