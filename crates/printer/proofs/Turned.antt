-- What the passes of a print come to under a host that accepts the template.
use Rattle.std.proofs.Common.{◌≡◌, ℕ, suc, ◌+◌, ◌<◌, ◌≤◌, cond, List, [], ◌∷◌, ◌++◌, length, is_some, Some, None, Ok, Err, Option, Result, sym, refl, ap, ◌∙◌, append_assoc, append-nil, arith}
use Rattle.std.specs.List.{prefix_len}
use Rattle.std.specs.Result.{result_ok}
use Rattle.std.proofs.lemmas.Bool.{lt-ltb, le-ltb, cond-true, cond-false}
use Rattle.host.specs.Meaning.{Meaning, Brackets}
use Rattle.host.specs.Run.{start, text}
use Rattle.fault.specs.Refusal.{Refusal, report}
use Rattle.template.specs.Lexing.{Lexed, byte, hole, end, fault, lexed_from}
use Rattle.template.specs.Judging.{accepted, crossing, decide, judge, verdict}
use Rattle.template.specs.Items.{items}
use Rattle.template.proofs.Judged.{apart, decided, crossed}
use Rattle.template.proofs.Plans.{short}
use Rattle.template.proofs.Accepted.{crossed_recipe, accepted_is}
use Rattle.printer.specs.Slate.{spells}
use Rattle.printer.specs.Printing.{first_turned, turned, printed_as, printed_by, printed, after}
use Rattle.printer.specs.Passes.{flawed, and_then, spelt_out, prints, fitting, walked_by, walked}
use Rattle.printer.proofs.Texts.{texts}

after_ok : {A B : Type 0} (f : A → B) (x : Result A Refusal) (y : B) → after f x ≡ Ok y → (u : A) × (x ≡ Ok u)
after_ok f (Ok u) y e = (u, refl)
after_ok f (Err r) y e = cc

after_err : {A B : Type 0} (f : A → B) (x : Result A Refusal) (r : Refusal) → after f x ≡ Err r → x ≡ Err r
after_err f (Ok u) r e = cc
after_err f (Err q) r e = cc

module _ (m : Meaning) (c k : ℕ) where
  -- a value that the body spells
  spelt_all : (i : ℕ) (bs w : List ℕ) → spelt_out m c k i bs ≡ Ok w → length bs ≤ prefix_len (spells m c) bs
  spelt_all i [] w e = omega arith
  spelt_all i (b ∷ bs) w e =
      elim (m.spelling c b) as (λ o. decide o (Err (turned k i)) (λ s. after (λ t. s ++ t) (spelt_out m c k (i + 1) bs)) ≡ Ok w → suc (length bs) ≤ cond (is_some o) (1 + prefix_len (spells m c) bs) 0) [
        | None ↦ λ f. cc
        | Some s ↦ λ f. let u = after_ok (λ t. s ++ t) (spelt_out m c k (i + 1) bs) w f in omega (arith, spelt_all (i + 1) bs u.0 u.1)
      ] e

  -- and one with a byte that it turns away
  spelt_some : (i : ℕ) (bs : List ℕ) (r : Refusal) → spelt_out m c k i bs ≡ Err r → (prefix_len (spells m c) bs < length bs) × (r ≡ turned k (i + prefix_len (spells m c) bs))
  spelt_some i [] r e = cc
  spelt_some i (b ∷ bs) r e =
      elim (m.spelling c b) as (λ o. decide o (Err (turned k i)) (λ s. after (λ t. s ++ t) (spelt_out m c k (i + 1) bs)) ≡ Err r → (cond (is_some o) (1 + prefix_len (spells m c) bs) 0 < suc (length bs)) × (r ≡ turned k (i + cond (is_some o) (1 + prefix_len (spells m c) bs) 0))) [
        | None ↦ λ f. let same : turned k i ≡ r = cc in (omega arith, sym same ∙ ap (turned k) (omega arith))
        | Some s ↦ λ f. let h = spelt_some (i + 1) bs r (after_err (λ t. s ++ t) (spelt_out m c k (i + 1) bs) r f) in (omega (arith, h.0), h.1 ∙ ap (turned k) (omega arith))
      ] e

module _ (m : Meaning) (v : ℕ → List ℕ) where
  first_here : (k c : ℕ) (cs : List ℕ) → prefix_len (spells m c) (v k) < length (v k) → first_turned m v k (c ∷ cs) ≡ (k, prefix_len (spells m c) (v k))
  first_here k c cs lt = cond-true _ _ _ (lt-ltb _ _ lt)

  first_later : (k c : ℕ) (cs : List ℕ) → length (v k) ≤ prefix_len (spells m c) (v k) → first_turned m v k (c ∷ cs) ≡ first_turned m v (k + 1) cs
  first_later k c cs le = cond-false _ _ _ (le-ltb _ _ le)

  -- what is left of an accepted template is refused by the first byte that is turned away, and by nothing else
  record Found (l : Lexed) (k c : ℕ) (acc bs : List ℕ) : Type 0 where
    tail : List ℕ
    is : bs ≡ acc ++ tail
    turns : (r : Refusal) → prints m v l k c ≡ Err r → r ≡ turned (first_turned m v k tail).0 (first_turned m v k tail).1

  found : (l : Lexed) (k c : ℕ) (acc : List ℕ) (n : ℕ) (bs : List ℕ) → judge m l k c acc ≡ accepted n bs → Found l k c acc bs
  found (byte p b rest) k c acc n bs e =
      let d = decided (m.step c b) (report 6 p) (λ u. judge m rest k u.0 acc) n bs e in
      let more = found rest k d.0.0 acc n bs d.2 in
      let next = ap (λ o. decide o (Err (flawed 6 p)) (λ s. after (λ t. b ∷ t) (prints m v rest k s.0))) d.1 in
      record { tail = more.tail; is = more.is; turns = λ r f. more.turns r (after_err (λ t. b ∷ t) (prints m v rest k d.0.0) r (sym next ∙ f)) }
  found (hole p name rest) k c acc n bs e =
      let d = crossed m p name rest k c acc n bs e in
      let x = d.way in
      let b = crossed_recipe m c x d.found in
      let more = found rest (k + 1) x.1 (acc ++ (x.0 ∷ [])) n bs d.onward in
      record {
        tail = x.0 ∷ more.tail;
        is = more.is ∙ append_assoc acc (x.0 ∷ []) more.tail;
        turns = λ r f. go x b.0 b.2 more.tail more.turns r (spelt_out m b.0.body k 0 (v k)) refl (sym (shape x b.0 d.found b.1) ∙ f);
      }
    where
      F : Brackets → List ℕ → List ℕ → List ℕ
      F r w bs = r.opener ++ (w ++ (r.closer ++ bs))

      shape : (x : ℕ × ℕ) (r : Brackets) → crossing m c ≡ Some x → m.recipe c ≡ Some r → prints m v (hole p name rest) k c ≡ and_then (spelt_out m r.body k 0 (v k)) (λ w. after (F r w) (prints m v rest (k + 1) x.1))
      shape x r f g = rw (f, g) refl

      go : (x : ℕ × ℕ) (b : Brackets) → b.body ≡ x.0 → (cs : List ℕ) → ((r : Refusal) → prints m v rest (k + 1) x.1 ≡ Err r → r ≡ turned (first_turned m v (k + 1) cs).0 (first_turned m v (k + 1) cs).1) → (r : Refusal) (y : Result (List ℕ) Refusal) → spelt_out m b.body k 0 (v k) ≡ y → and_then y (λ w. after (F b w) (prints m v rest (k + 1) x.1)) ≡ Err r → r ≡ turned (first_turned m v k (x.0 ∷ cs)).0 (first_turned m v k (x.0 ∷ cs)).1
      go x b same cs more r (Ok w) h f =
          let all = spelt_all m b.body k 0 (v k) w h in
          let to = first_later k b.body cs all in
          more r (after_err (F b w) (prints m v rest (k + 1) x.1) r f) ∙ ap (λ (y : ℕ × ℕ). turned y.0 y.1) (sym to ∙ ap (λ d. first_turned m v k (d ∷ cs)) same)
      go x b same cs more r (Err q) h f =
          let some = spelt_some m b.body k 0 (v k) q h in
          let to = first_here k b.body cs some.0 in
          let is : q ≡ r = cc in
          sym is ∙ some.1 ∙ ap (turned k) (omega arith) ∙ ap (λ (y : ℕ × ℕ). turned y.0 y.1) (sym to ∙ ap (λ d. first_turned m v k (d ∷ cs)) same)
  found (end p) k c acc n bs e =
      let d = decided (m.end c) (report 8 p) (λ x. accepted k acc) n bs e in
      let same : acc ≡ bs = cc in
      record { tail = []; is = sym same ∙ sym (append-nil acc); turns = λ r f. cc }
  found (fault r) k c acc n bs e = absurd (apart e)

  -- Both passes come to what is printed.
  pub walked_printed : (t : List ℕ) (n : ℕ) (bs : List ℕ) → verdict m t ≡ accepted n bs → (room : ℕ) → walked m v t room ≡ printed m v t room
  walked_printed t n bs e room =
      let a = accepted_is m t n bs e in
      let s = short m t n bs e in
      let f = found (lexed_from t 0) 0 0 [] n bs s.1 in
      ap (λ b. walked_by b m v t room) (le-ltb 3584 (length t) s.0)
      ∙ go (prints m v (lexed_from t 0) 0 0) f.turns (texts m v (lexed_from t 0) (items t) 0 start a.read) refl
      ∙ ap (λ (cs : List ℕ). printed_as (text m v (items t) 0 start) (first_turned m v 0 cs) room) (sym f.is)
      ∙ sym (ap (λ d. printed_by d m v t room) e)
    where
      go : {first : ℕ × ℕ} {o : Option (List ℕ)} (x : Result (List ℕ) Refusal) → ((r : Refusal) → prints m v (lexed_from t 0) 0 0 ≡ Err r → r ≡ turned first.0 first.1) → result_ok x ≡ o → prints m v (lexed_from t 0) 0 0 ≡ x → fitting room x ≡ printed_as o first room
      go {first} (Ok w) turns e h = ap (λ o. printed_as o first room) e
      go {first} (Err r) turns e h = ap Err (turns r h) ∙ ap (λ o. printed_as o first room) e
