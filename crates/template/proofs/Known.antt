-- A hole of which it is known where it ends.
use Rattle.std.proofs.Common.{◌≡◌, ℕ, suc, ◌+◌, ◌-◌, ◌<◌, ◌≤◌, Bool, true, false, ◌&&◌, List, [], ◌∷◌, ◌++◌, length, take, drop, ◌==◌, nat_lt, refl, sym, ap, ◌∙◌, append_assoc, append-nil, length-append, rules, arith}
use Rattle.std.specs.List.{between}
use Rattle.std.proofs.lemmas.List.{drop-drop, length-drop}
use Rattle.template.specs.Notation.{goes_on}
use Rattle.template.specs.Lexing.{Lexed, hole, between_pieces, in_name, lex, lexed_from, literals, ends_in}
use Rattle.template.proofs.Lexed.{move_on, move_close, move_break}
use Rattle.template.proofs.Pieces.{step_move}

-- literals end no hole
pub past_literals : (bs : List ℕ) (p : ℕ) (l : Lexed) → ends_in (literals p bs l) ≡ ends_in l
past_literals [] p l = refl
past_literals (b ∷ bs) p l = past_literals bs (p + 1) l

-- a name of which n is read, in a hole that begins at q and ends at e
abbrev Closed : ℕ → List ℕ → ℕ → ℕ → List ℕ → Type 0
Closed q n p e bs = (lex (in_name q n) p bs ≡ hole q (n ++ take (e - 1 - p) bs) (lex between_pieces e (drop (e - p) bs))) × (q + 3 < e) × (p < e) × (e ≤ p + length bs)

none : {e : ℕ} → [] ≡ e ∷ [] → ⊥
none is = let z : ◌≡◌ {A = ℕ} 0 1 = cc in omega arith

the_end : {d e : ℕ} → d ∷ [] ≡ e ∷ [] → d ≡ e
the_end is = cc

module _ (q e : ℕ) (n : List ℕ) (p b : ℕ) (bs : List ℕ) (from : p ≡ q + 2 + length n) (is : take 1 (ends_in (lex (in_name q n) p (b ∷ bs))) ≡ e ∷ []) where
  closed_by : ((m : List ℕ) → p + 1 ≡ q + 2 + length m → take 1 (ends_in (lex (in_name q m) (p + 1) bs)) ≡ e ∷ [] → Closed q m (p + 1) e bs) → (t u : Bool) → goes_on (length n) b ≡ t → (nat_lt 0 (length n) && (b == 125)) ≡ u → Closed q n p e (b ∷ bs)
  closed_by more true u f g =
      let step = step_move (in_name q n) p b bs _ (move_on q n p b f) in
      let rest = more (n ++ (b ∷ [])) (omega (arith, from, length-append n (b ∷ []))) (ap (λ l. take 1 (ends_in l)) (sym step) ∙ is) in
      let one : e - 1 - p ≡ suc (e - 1 - (p + 1)) = omega (arith, rest.1, rest.2) in
      let two : e - p ≡ suc (e - (p + 1)) = omega (arith, rest.1, rest.2) in
      (step ∙ rest.0 ∙ rw (one, two) (ap (λ m. hole q m (lex between_pieces e (drop (e - (p + 1)) bs))) (append_assoc n (b ∷ []) (take (e - 1 - (p + 1)) bs))), rest.1, omega (arith, rest.2), omega (arith, rest.3))
  closed_by more false true f g =
      let step = step_move (in_name q n) p b bs _ (move_close q n p b f g) in
      let here : q + length n + 3 ≡ e = the_end (ap (λ l. take 1 (ends_in l)) (sym step) ∙ is) in
      let some : 0 < length n = search (rules, g) in
      let one : e - 1 - p ≡ 0 = omega (arith, here, from) in
      let two : e - p ≡ 1 = omega (arith, here, from) in
      let next : p + 1 ≡ e = omega (arith, here, from) in
      (step ∙ rw (one, two) (ap (λ m. hole q m (lex between_pieces (p + 1) bs)) (sym (append-nil n)) ∙ ap (λ k. hole q (n ++ []) (lex between_pieces k bs)) next), omega (arith, some, here), omega (arith, next), omega (arith, next))
  closed_by more false false f g =
      let step = step_move (in_name q n) p b bs _ (move_break q n p b f g) in
      absurd (none (ap (λ l. take 1 (ends_in l)) (sym step) ∙ is))

closed : (bs n : List ℕ) (q p e : ℕ) → p ≡ q + 2 + length n → take 1 (ends_in (lex (in_name q n) p bs)) ≡ e ∷ [] → Closed q n p e bs
closed [] n q p e from is = absurd (none is)
closed (b ∷ bs) n q p e from is = closed_by q e n p b bs from is (λ m. closed bs m q (p + 1) e) (goes_on (length n) b) (nat_lt 0 (length n) && (b == 125)) refl refl

-- the hole at a place, of which it is known where it ends
pub named : (t : List ℕ) (q e : ℕ) → q + 2 ≤ length t → take 1 (ends_in (lex (in_name q []) (q + 2) (drop (q + 2) t))) ≡ e ∷ [] → (lex (in_name q []) (q + 2) (drop (q + 2) t) ≡ hole q (between (q + 2) (e - 1) t) (lexed_from t (e - 1 + 1))) × (q + 2 < e - 1) × (e - 1 < length t)
named t q e le is =
    let it = closed (drop (q + 2) t) [] q (q + 2) e (omega arith) is in
    let far : length (drop (q + 2) t) ≡ length t - (q + 2) = length-drop (q + 2) t in
    let same : drop (e - (q + 2)) (drop (q + 2) t) ≡ drop e t = drop-drop (e - (q + 2)) (q + 2) t ∙ ap (λ (k : ℕ). drop k t) (omega (arith, it.2)) in
    let back : e - 1 + 1 ≡ e = omega (arith, it.1) in
    (it.0 ∙ rw (back) (ap (λ l. hole q (take (e - 1 - (q + 2)) (drop (q + 2) t)) (lex between_pieces e l)) same), omega (arith, it.1), omega (arith, it.3, it.1, far))
