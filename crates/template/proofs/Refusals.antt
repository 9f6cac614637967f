-- The law of refusals: a template is refused with a report just where that report is right.
use Rattle.std.proofs.Common.{◌≡◌, ℕ, ◌+◌, true, false, ◌⊎◌, List, [], ◌∷◌, ◌++◌, length, drop, is_ok, Some, None, Ok, Err, Decides, Option, Result, sym, refl, ap, ◌∙◌, subst, inl, inr, append_assoc, arith}
use Rattle.std.specs.List.{flat_map, AllByRecursion}
use Rattle.std.proofs.lemmas.List.{drop-drop, drop_at, length-drop}
use Rattle.std.proofs.lemmas.Bool.{lt-ltb, le-ltb, cases_lt, false≢true}
use Rattle.host.specs.Meaning.{Meaning, Sound, Brackets, chain, quiet}
use Rattle.host.specs.Run.{literal, hole as gap, start}
use Rattle.host.proofs.Chains.{holds, onward}
use Rattle.host.proofs.Quiet.{begins}
use Rattle.template.specs.Notation.{Piece, itself, escape, named, written, proper, item}
use Rattle.template.specs.Law.{holes_of, Acceptable}
use Rattle.template.specs.Faulty.{Before, Stands, Faulty, last_sign, stray_sign, open_name, broken_name, many_holes, no_literal, no_hole, no_end, RefusedWith, over_long, at_fault}
use Rattle.template.specs.Lexing.{Lexed, byte, end, fault, between_pieces, lex, lexed_from}
use Rattle.template.specs.Judging.{Verdict, refused, accepted, reach, crossing, decide, judge, by_length, verdict}
use Rattle.template.specs.declared.checked.Checked.{Checked}
use Rattle.template.specs.Checking.{checks_as, checked_of, ToldRightly}
use Rattle.template.proofs.Lexed.{lex_all}
use Rattle.template.proofs.Judged.{apart, hole_many, hole_few}
use Rattle.template.proofs.Pieces.{placed, read_piece, Wrong, last, stray, unclosed, broken, blamed, read_wrong, split}
use Rattle.template.proofs.Plans.{visits, Taken, accepted_acceptable, refused_unacceptable}
use Rattle.template.proofs.Prefixes.{judged_before, further}
use Rattle.template.proofs.Reading.{the_same}
use Rattle.fault.specs.declared.fault.Fault.{Fault}
use Rattle.fault.specs.Refusal.{Report, report, of_template}

same_report : {q r : Report} → refused q ≡ refused r → q ≡ r
same_report e = cc

same_byte : {a b : ℕ} → literal a ≡ literal b → a ≡ b
same_byte e = cc

no_byte : {b : ℕ} → gap ≡ literal b → ⊥
no_byte e = let z : ◌≡◌ {A = ℕ} 0 1 = cc in omega arith

undecided : {A : Type 0} {o : Option A} (r : Report) (f : A → Verdict) → o ≡ None → decide o (refused r) f ≡ refused r
undecided r f e = ap (λ o. decide o (refused r) f) e

none_or_some : {A : Type 0} (o : Option A) → (o ≡ None) ⊎ ((x : A) × (o ≡ Some x))
none_or_some None = inl refl
none_or_some (Some x) = inr (x, refl)

-- a piece that stands for a byte is read as that byte
literally : (pc : Piece) (b p : ℕ) (l : Lexed) → item pc ≡ literal b → placed pc p l ≡ byte p b l
literally (itself x) b p l e = ap (λ y. byte p y l) (same_byte e)
literally (escape x) b p l e = ap (λ y. byte p y l) (same_byte e)
literally (named n) b p l e = absurd (no_byte e)

-- a quiet reading comes to its context
quiet_reach : (m : Meaning) (bs : List ℕ) (c : ℕ) (r : ℕ × List ℕ) → quiet m c bs ≡ Some r → reach m c bs ≡ Some r.0
quiet_reach m [] c r e = ap (λ (x : ℕ × List ℕ). Some x.0) (the_same e)
quiet_reach m (b ∷ bs) c r e =
    let q = begins m c b bs r e in
    onward (λ s. reach m s.0 bs) q.steps (quiet_reach m bs q.next.0 q.then q.later ∙ ap (λ x. Some x.0) q.comes)

-- a hole is crossed just where the context has a recipe
module _ (m : Meaning) (c : ℕ) where
  abbrev across : Brackets → Option (ℕ × ℕ)
  across r = chain (reach m c r.opener) (λ d. chain (reach m d r.closer) (λ e. Some (r.body, e)))

  no_way : m.recipe c ≡ None → crossing m c ≡ None
  no_way e = ap (λ o. chain o across) e

  a_way : Sound m → (r : Brackets) → m.recipe c ≡ Some r → (d : ℕ) × (crossing m c ≡ Some (r.body, d))
  a_way sound r e =
      let opens = holds (λ r. (quiet m c r.opener ≡ Some (r.body, [])) × (m.is_open r.body ≡ true)) e (sound.opens c) in
      let closes = holds (λ r. (d : ℕ) × (quiet m r.body r.closer ≡ Some (d, []))) e (sound.closes c) in (
        closes.0,
        onward across e
            (onward (λ d. chain (reach m d r.closer) (λ e. Some (r.body, e))) (quiet_reach m r.opener c (r.body, []) opens.0)
            (onward (λ e. Some (r.body, e)) (quiet_reach m r.closer r.body (closes.0, []) closes.1) refl)),
      )

-- A faulty template is refused with its report.
module _ (m : Meaning) (t : List ℕ) where
  judged_at : (p : ℕ) (w : Before m t p) (l : Lexed) (r : Report) → lexed_from t p ≡ l → ((after : List ℕ) → judge m l (holes_of w.pieces) w.state.context after ≡ refused r) → judge m (lexed_from t 0) 0 0 [] ≡ refused r
  judged_at p w l r e f = let j = judged_before m t p w in j.1 ∙ ap (λ x. judge m x (holes_of w.pieces) w.state.context j.0) e ∙ f j.0

  judged_wrong : (p : ℕ) → Before m t p → (f : Wrong (drop p t)) → judge m (lexed_from t 0) 0 0 [] ≡ refused (blamed f p)
  judged_wrong p w f = judged_at p w (fault (blamed f p)) (blamed f p) (read_wrong (drop p t) f p) (λ after. refl)

  standing : (p : ℕ) (pc : Piece) (st : Stands t p pc) → lexed_from t p ≡ placed pc p (lex between_pieces (p + length (written pc)) st.rest)
  standing p pc st = ap (lex between_pieces p) st.reads ∙ read_piece pc st.well p st.rest

  judged : (r : Report) → Faulty m t r → judge m (lexed_from t 0) 0 0 [] ≡ refused r
  judged r (last_sign p w e) = judged_wrong p w (last e)
  judged r (stray_sign p b rest w e no_escape no_name) = judged_wrong p w (stray b rest e no_escape no_name)
  judged r (open_name p n w ok e) = judged_wrong p w (unclosed n ok e) ∙ ap (λ k. refused (report 3 k)) (omega (arith, w.within, length-drop p t, ap length e))
  judged r (broken_name p n b rest w ok e stops no_close) = judged_wrong p w (broken n b rest ok e stops no_close)
  judged r (many_holes p n w st e) = judged_at p w _ _ (standing p (named n) st) (λ after. hole_many m p n _ _ _ after (omega (arith, e)))
  judged r (no_literal p pc b w st e none) = judged_at p w _ _ (standing p pc st ∙ literally pc b p _ e) (λ after. undecided _ _ none)
  judged r (no_hole p n w st few none) =
      judged_at p w _ _ (standing p (named n) st) (λ after. hole_few m p n _ _ _ after few ∙ undecided _ _ (no_way m w.state.context none))
  judged r (no_end w none) = judged_at (length t) w (end (length t)) _ (lex_all t (length t) between_pieces (omega arith)) (λ after. undecided _ _ none)

-- A template is faulty, or else it is accepted.
module _ (m : Meaning) (sound : Sound m) (t : List ℕ) where
  abbrev Stops : Type 0
  Stops = (r : Report) × Faulty m t r

  -- one piece more, or the fault that it has
  module _ (p : ℕ) (w : Before m t p) where
    abbrev GoesOn : Piece → Type 0
    GoesOn pc = Stops ⊎ Before m t (p + length (written pc))

    on_literal : (pc : Piece) (b : ℕ) → item pc ≡ literal b → holes_of (pc ∷ []) ≡ 0 → Stands t p pc → GoesOn pc
    on_literal pc b e none st =
        elim (none_or_some (m.step w.state.context b)) [
          | inl n ↦ inl (report 6 p, no_literal p pc b w st e n)
          | inr s ↦ inr (further m t p w pc st (omega (arith, none, w.few)) s.0.0 (ap (λ i. visits m (i ∷ []) w.state.context) e ∙ ap (λ o. chain o (λ s. Some s.0)) s.1))
        ]

    on_hole : (n : List ℕ) → Stands t p (named n) → GoesOn (named n)
    on_hole n st =
        elim (cases_lt (holes_of w.pieces) 64) [
          | inl few ↦ elim (none_or_some (m.recipe w.state.context)) [
            | inl none ↦ inl (report 7 p, no_hole p n w st few none)
            | inr r ↦
                let way = a_way m w.state.context sound r.0 r.1 in
                inr (further m t p w (named n) st (omega (arith, few)) way.0 (ap (λ o. chain o (λ x. Some x.1)) way.1))
          ]
          | inr many ↦ inl (report 5 p, many_holes p n w st (omega (arith, many, w.few)))
        ]

    on_piece : (pc : Piece) → Stands t p pc → GoesOn pc
    on_piece (itself b) st = on_literal (itself b) b refl refl st
    on_piece (escape e) st = on_literal (escape e) _ refl refl st
    on_piece (named n) st = on_hole n st

    on_wrong : Wrong (drop p t) → Stops
    on_wrong (last e) = (report 2 p, last_sign p w e)
    on_wrong (stray b rest e no_escape no_name) = (report 2 p, stray_sign p b rest w e no_escape no_name)
    on_wrong (unclosed n ok e) = (report 3 (length t), open_name p n w ok e)
    on_wrong (broken n b rest ok e stops no_close) = (report 3 (p + 2 + length n), broken_name p n b rest w ok e stops no_close)

  on_end : Before m t (length t) → Stops ⊎ Taken (judge m (lexed_from t 0) 0 0 [])
  on_end w =
      elim (none_or_some (m.end w.state.context)) [
        | inl none ↦ inl (report 8 (length t), no_end w none)
        | inr e ↦
            let j = judged_before m t (length t) w in
            inr (_, _, j.1 ∙ ap (λ l. judge m l (holes_of w.pieces) w.state.context j.0) (lex_all t (length t) between_pieces (omega arith)) ∙ ap (λ o. decide o (refused (report 8 (length t))) (λ e. accepted (holes_of w.pieces) j.0)) e.1)
      ]

  -- through the pieces that are left
  through : (ps : List Piece) → AllByRecursion proper ps → (rest : List ℕ) → (rest ≡ []) ⊎ Wrong rest → (p : ℕ) → Before m t p → drop p t ≡ flat_map written ps ++ rest → Stops ⊎ Taken (judge m (lexed_from t 0) 0 0 [])
  through [] ok rest stops p w e =
      elim stops [
        | inl none ↦
            let at_end : p ≡ length t = omega (arith, w.within, length-drop p t, ap length (e ∙ none)) in
            on_end (subst (Before m t) at_end w)
        | inr f ↦ inl (on_wrong p w (subst Wrong (sym e) f))
      ]
  through (pc ∷ ps) ok rest stops p w e =
      let left = flat_map written ps ++ rest in
      let reads : drop p t ≡ written pc ++ left = e ∙ append_assoc (written pc) (flat_map written ps) rest in
      let next : drop (p + length (written pc)) t ≡ left = sym (drop-drop (length (written pc)) p t) ∙ ap (drop (length (written pc))) reads ∙ drop_at (written pc) left _ refl in
      elim (on_piece p w pc (record { well = ok.0; rest = left; reads = reads })) [
        | inl f ↦ inl f
        | inr v ↦ through ps ok.1 rest stops (p + length (written pc)) v next
      ]

  beginning : Before m t 0
  beginning = record { within = omega arith; pieces = []; notation = record { well = tt; spelled = refl }; few = omega arith; state = start; ran = refl }

  faulty_or_taken : Stops ⊎ Taken (judge m (lexed_from t 0) 0 0 [])
  faulty_or_taken = let s = split t in through s.pieces s.well s.rest s.stops 0 beginning (sym s.spelled)

  judged_rightly : (r : Report) → judge m (lexed_from t 0) 0 0 [] ≡ refused r → Faulty m t r
  judged_rightly r e =
      elim faulty_or_taken [
        | inl f ↦ subst (Faulty m t) (same_report (sym (judged m t f.0 f.1) ∙ e)) f.1
        | inr a ↦ absurd (apart (sym e ∙ a.2))
      ]

pub refused_rightly : (m : Meaning) → Sound m → (t : List ℕ) (r : Report) → verdict m t ≡ refused r → RefusedWith m t r
refused_rightly m sound t r e =
    elim (cases_lt 3584 (length t)) [
      | inl long ↦ over_long long (same_report (sym e ∙ ap (λ b. by_length b m t) (lt-ltb 3584 (length t) long)))
      | inr le ↦ at_fault le (judged_rightly m sound t r (sym (ap (λ b. by_length b m t) (le-ltb 3584 (length t) le)) ∙ e))
    ]

pub rightly_refused : (m : Meaning) (t : List ℕ) (r : Report) → RefusedWith m t r → verdict m t ≡ refused r
rightly_refused m t r (over_long long e) = ap (λ b. by_length b m t) (lt-ltb 3584 (length t) long) ∙ ap refused (sym e)
rightly_refused m t r (at_fault le f) = ap (λ b. by_length b m t) (le-ltb 3584 (length t) le) ∙ judged m t r f

-- an answer that says what the verdict says
of_template_same : {q r : Report} → of_template q ≡ of_template r → q ≡ r
of_template_same e = λ i. record { number = (e i).number; place = (e i).place }

refuses_as : (t : List ℕ) (v : Verdict) (q : Report) → Err (of_template q) ≡ checks_as t v → v ≡ refused q
refuses_as t (refused r) q e =
    let same : of_template q ≡ of_template r = cc in
    ap refused (sym (of_template_same same))
refuses_as t (accepted n bs) q e = let z : ◌≡◌ {A = ℕ} 0 1 = cc in absurd (omega arith)

pub told_rightly : (m : Meaning) → Sound m → (t : List ℕ) (r : Result Checked Fault) → checked_of r ≡ checks_as t (verdict m t) → ToldRightly m t r
told_rightly m sound t r e = record {
  only = λ q h. refused_rightly m sound t q (refuses_as t (verdict m t) q (sym h ∙ e));
  all = λ q h. e ∙ ap (checks_as t) (rightly_refused m t q h);
}

-- it accepts just the templates that are acceptable
pub accepts_rightly : (m : Meaning) (t : List ℕ) (r : Result Checked Fault) → checked_of r ≡ checks_as t (verdict m t) → Decides (is_ok r) (Acceptable m t)
accepts_rightly m t (Ok c) e = go (verdict m t) refl e
  where
    go : (d : Verdict) → verdict m t ≡ d → checked_of (Ok c) ≡ checks_as t d → Decides true (Acceptable m t)
    go (refused q) h f = absurd (let z : ◌≡◌ {A = ℕ} 0 1 = cc in omega arith)
    go (accepted n bs) h f = (λ _. accepted_acceptable m t n bs h, λ _. refl)
accepts_rightly m t (Err x) e = go (verdict m t) refl e
  where
    go : (d : Verdict) → verdict m t ≡ d → checked_of (Err x) ≡ checks_as t d → Decides false (Acceptable m t)
    go (refused q) h f = (λ no. absurd (false≢true no), λ a. absurd (refused_unacceptable m t q h a))
    go (accepted n bs) h f = absurd (let z : ◌≡◌ {A = ℕ} 0 1 = cc in omega arith)
