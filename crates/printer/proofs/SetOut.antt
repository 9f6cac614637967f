-- What a template comes to by the contexts of its holes.
use Rattle.std.proofs.Common.{◌≡◌, ℕ, ◌+◌, List, [], ◌∷◌, ◌++◌, length, get_or, Some, Err, refl, sym, ap, ◌∙◌, append_assoc, arith, length-append}
use Rattle.std.proofs.lemmas.Bool.{le-ltb}
use Rattle.fault.specs.Refusal.{report}
use Rattle.host.specs.Meaning.{Meaning, Brackets}
use Rattle.template.specs.Lexing.{Lexed, byte, hole, end, fault, lexed_from}
use Rattle.template.specs.Judging.{accepted, crossing, contexts_in, decide, judge, verdict}
use Rattle.template.proofs.Judged.{decided, crossed}
use Rattle.template.proofs.Plans.{short}
use Rattle.template.proofs.Accepted.{crossed_recipe}
use Rattle.printer.specs.Passes.{flawed, prints, fitting, sets_out, set_out_by, set_out, walked_by}
use Rattle.printer.specs.Printing.{after, printed}
use Rattle.printer.proofs.Turned.{walked_printed}

-- the first after those in front
at_front : (front cs : List ℕ) (c : ℕ) → get_or (front ++ (c ∷ cs)) (length front) 0 ≡ c
at_front [] cs c = refl
at_front (x ∷ front) cs c = at_front front cs c

module _ (m : Meaning) (v : ℕ → List ℕ) (all : List ℕ) where
  same : (l : Lexed) (k c : ℕ) (acc front : List ℕ) (n : ℕ) (bs : List ℕ) → judge m l k c acc ≡ accepted n bs → all ≡ front ++ contexts_in m l c → length front ≡ k → sets_out m (λ i. get_or all i 0) v l k ≡ prints m v l k c
  same (byte p b rest) k c acc front n bs e is long =
      let d = decided (m.step c b) (report 6 p) (λ u. judge m rest k u.0 acc) n bs e in
      let next = ap (λ o. decide o (Err (flawed 6 p)) (λ s. after (λ t. b ∷ t) (prints m v rest k s.0))) d.1 in
      let left = ap (λ o. front ++ decide o [] (λ s. contexts_in m rest s.0)) d.1 in
      ap (after (λ t. b ∷ t)) (same rest k d.0.0 acc front n bs d.2 (is ∙ left) long) ∙ sym next
  same (hole p name rest) k c acc front n bs e is long =
      let d = crossed m p name rest k c acc n bs e in
      let x = d.way in
      let b = crossed_recipe m c x d.found in
      let left : front ++ (c ∷ decide (crossing m c) [] (λ y. contexts_in m rest y.1)) ≡ (front ++ (c ∷ [])) ++ contexts_in m rest x.1 = ap (λ o. front ++ (c ∷ decide o [] (λ y. contexts_in m rest y.1))) d.found ∙ sym (append_assoc front (c ∷ []) (contexts_in m rest x.1)) in
      let here : get_or all k 0 ≡ c = ap (λ (a : List ℕ). get_or a k 0) is ∙ ap (λ (i : ℕ). get_or (front ++ contexts_in m (hole p name rest) c) i 0) (sym long) ∙ at_front front _ c in
      let more = same rest (k + 1) x.1 (acc ++ (x.0 ∷ [])) (front ++ (c ∷ [])) n bs d.onward (is ∙ left) (length-append front (c ∷ []) ∙ omega arith) in
      one x b.0 d.found b.1 here more
    where
      one : (x : ℕ × ℕ) (r : Brackets) → crossing m c ≡ Some x → m.recipe c ≡ Some r → get_or all k 0 ≡ c → sets_out m (λ i. get_or all i 0) v rest (k + 1) ≡ prints m v rest (k + 1) x.1 → sets_out m (λ i. get_or all i 0) v (hole p name rest) k ≡ prints m v (hole p name rest) k c
      one x r f g h more = rw (h, f, g, more) refl
  same (end p) k c acc front n bs e is long = refl
  same (fault r) k c acc front n bs e is long = refl

pub set_out_printed : (m : Meaning) (v : ℕ → List ℕ) (t cs : List ℕ) (n : ℕ) (bs : List ℕ) → verdict m t ≡ accepted n bs → cs ≡ contexts_in m (lexed_from t 0) 0 → (room : ℕ) → set_out m cs v t room ≡ printed m v t room
set_out_printed m v t cs n bs e is room =
    let s = short m t n bs e in
    let brief = le-ltb 3584 (length t) s.0 in
    ap (λ b. set_out_by b m (λ i. get_or cs i 0) v t room) brief
    ∙ ap (fitting room) (same m v cs (lexed_from t 0) 0 0 [] [] n bs s.1 is refl)
    ∙ sym (ap (λ b. walked_by b m v t room) brief)
    ∙ walked_printed m v t n bs e room
