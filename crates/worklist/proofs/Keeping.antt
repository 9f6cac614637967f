-- The promise of work lists is kept.
use Rattle.std.proofs.Common.{◌≡◌, ℕ, ◌<◌, leb, List, length, get_or, take, Some, None, Option, Result, sym, refl, ap, ◌∙◌, subst, arith}
use mathlib.Core.Path.{fun_ext}
use Rattle.host.specs.Meaning.{Meaning, Sound, Body}
use Rattle.host.specs.Run.{start}
use Rattle.host.specs.Promise.{holes, bodies, body_of}
use Rattle.host.proofs.Bodies.{holes_have_bodies_lem}
use Rattle.host.proofs.Readings.{text_reads_as_plan_lem}
use Rattle.host.proofs.Marks.{plan_marks_holes_lem}
use Rattle.host.proofs.Texts.{text_exists_lem}
use Rattle.host.proofs.Independence.{readings_independent_lem}
use Rattle.fault.specs.Refusal.{Refusal}
use Rattle.template.specs.Items.{items}
use Rattle.template.specs.Judging.{Verdict, verdict, accepted}
use Rattle.template.proofs.Accepted.{Accepted, accepted_is}
use Rattle.printer.specs.Held.{rows_of}
use Rattle.printer.specs.Printing.{in_room, printed_as, printed_by, printed, first_turned, weight, output}
use Rattle.printer.specs.Rows.{value_at}
use Rattle.printer.specs.Slate.{fresh, lowest, judge_bytes, judge_finish_lem, value_or_none, values_on}
use Rattle.printer.proofs.Linked.{rows_hold}
use Rattle.worklist.specs.Calls.{print_after, output_after}
use Rattle.worklist.specs.Law.{PromiseKept}
use Rattle.worklist.specs.Lines.{Order, owed, taken, refused, reply, answer}
use Rattle.worklist.specs.Promise.{BindTold, ReleaseTold, AlikeBut, slate_after, slate_answers, Text, Owes, IsRefused, BindOfOwed, Unconveyable, FirstUnconveyable, RefusedLine, BothWays, BothPrint, ReadAlike, printed_exactly, print_answer, print_output, Kept}
use Rattle.worklist.proofs.Slates.{good, as_many, answer_at, owed_within, finish_owes, owes_finish, finish_names, finish_counts}
use Rattle.worklist.proofs.Others.{Agree, agree_refl, others_alike, final_agree}
use Rattle.worklist.proofs.Refusals.{by_bytes, refused_never, never_refused, first_unspelt}
use Rattle.worklist.proofs.Stays.{stays}
use Rattle.worklist.proofs.Told.{bind_told, release_told}

room_exact : (w : List ℕ) (room : ℕ) → in_room (leb (length w) room) w ≡ printed_exactly w room
room_exact w room = grind arith

-- a finish that is refused, and one that is not
refused_print : (f : Result ℕ Refusal) (x : Result (List ℕ) Refusal) (old : List ℕ) → IsRefused f → (print_after f x ≡ None) × (output_after f old x ≡ old)
refused_print f x old r = (grind arith, grind arith)

taken_print : (f : Result ℕ Refusal) (x : Result (List ℕ) Refusal) (old : List ℕ) → (IsRefused f → ⊥) → (print_after f x ≡ Some (weight x)) × (output_after f old x ≡ output old x)
taken_print f x old r = (grind arith, grind arith)

module _ (m : Meaning) (sound : Sound m) (t : List ℕ) (n : ℕ) (bs : List ℕ) (e : verdict m t ≡ accepted n bs) (a : Accepted m t n bs) (os : List Order) where
  text_there : (w : List ℕ) × Text m t (slate_after m t os) w
  text_there = text_exists_lem m (items t) (values_on (slate_after m t os)) a.tokens a.planned (λ k i turned. good m (bodies m (items t) 0 start) (holes (items t)) os k i turned.1 turned.2)

  prints : (w : List ℕ) → Text m t (slate_after m t os) w → (room : ℕ) → printed m (value_at (rows_of (slate_after m t os))) t room ≡ printed_exactly w room
  prints w is room =
      let v = values_on (slate_after m t os) in
      ap (λ (u : ℕ → List ℕ). printed m u t room) (fun_ext (rows_hold (rows_of (slate_after m t os)) (slate_after m t os) refl))
      ∙ ap (λ (d : Verdict). printed_by d m v t room) e
      ∙ ap (λ (o : Option (List ℕ)). printed_as o (first_turned m v 0 bs) room) is
      ∙ room_exact w room

  agree : (k : ℕ) (ps : List Order) → AlikeBut k os ps → Agree k (slate_after m t os) (slate_after m t ps)
  agree k ps alike = let ss = fresh (holes (items t)) in final_agree m (bodies m (items t) 0 start) k alike ss ss (agree_refl k ss)

  read_alike : (k : ℕ) (ps : List Order) → AlikeBut k os ps → (w x : List ℕ) → BothPrint m t os ps w x → ReadAlike m t k w x
  read_alike k ps alike w x both =
      let g = agree k ps alike in
      let r = readings_independent_lem m sound (items t) a.tokens k (values_on (slate_after m t os)) (values_on (slate_after m t ps)) w x a.planned (λ j lt ne. ap value_or_none (g.at j None ne)) both.first_text both.second_text in
      record { tokens = a.tokens; planned = a.planned; first = r.0; second = r.1; first_reads = r.2; second_reads = r.3; alike = r.4 }

  answer_there : (i : ℕ) → i < length os → get_or (slate_answers m t os) i taken ≡ answer m (bodies m (items t) 0 start) (slate_after m t (take i os)) (get_or os i owed)
  answer_there i lt = answer_at m (bodies m (items t) 0 start) (fresh (holes (items t))) os i taken lt

  -- a bind to an owed hole
  module _ (i h : ℕ) (v : List ℕ) (b : BindOfOwed m t os i h v) where
    answered : get_or (slate_answers m t os) i taken ≡ reply (judge_bytes m h (body_of m (items t) h) v)
    answered =
        let bodied = bodies m (items t) 0 start in
        let ss = slate_after m t (take i os) in
        answer_there i b.within ∙ ap (answer m bodied ss) b.line ∙ ap reply (by_bytes m bodied ss h v b.hole_owed b.short)

    body : Body m (body_of m (items t) h)
    body =
        let within = owed_within (slate_after m t (take i os)) h b.hole_owed in
        holes_have_bodies_lem m (items t) a.tokens a.planned h (omega (arith, as_many m (bodies m (items t) 0 start) (holes (items t)) (take i os)))

    exact : BothWays (RefusedLine (get_or (slate_answers m t os) i taken)) (Unconveyable m t h v)
    exact = (
      λ r. refused_never m sound (body_of m (items t) h) body h v (subst RefusedLine answered r),
      λ u. subst RefusedLine (sym answered) (never_refused m sound (body_of m (items t) h) body h v u.0 u.1 u.2),
    )

    first : (f : Refusal) → get_or (slate_answers m t os) i taken ≡ refused f → FirstUnconveyable m t h v f
    first f q =
        let p = first_unspelt m sound (body_of m (items t) h) body h v f (sym answered ∙ q) in
        record { place = p.0; is = p.1; place_within = p.2; never = p.3; before = p.4 }

  module _ (old : List ℕ) where
    finish : Result ℕ Refusal
    finish = judge_finish_lem n (lowest (slate_after m t os))

    print : Result (List ℕ) Refusal
    print = printed m (value_at (rows_of (slate_after m t os))) t (length old)

    filled_prints : (Owes (slate_after m t os) → ⊥) → (w : List ℕ) → Text m t (slate_after m t os) w → (print_after finish print ≡ Some (print_answer w (length old))) × (output_after finish old print ≡ print_output w old)
    unfolding finish print
    filled_prints filled w is =
        let p = taken_print finish print old (λ r. filled (finish_owes n (slate_after m t os) r)) in
        let x : print ≡ printed_exactly w (length old) = prints w is (length old) in
        (grind arith, grind arith)

    pub kept : Kept m t os (slate_answers m t os) (rows_of (slate_after m t os)) (judge_finish_lem n (lowest (slate_after m t os))) (print_after (judge_finish_lem n (lowest (slate_after m t os))) (printed m (value_at (rows_of (slate_after m t os))) t (length old))) old (output_after (judge_finish_lem n (lowest (slate_after m t os))) old (printed m (value_at (rows_of (slate_after m t os))) t (length old)))
    unfolding finish print
    kept = record {
      answers_as_slate = refl;
      sheet_holds_slate = refl;
      binds_told = λ i h v lt is. subst (BindTold (slate_after m t (take i os)) h v) (sym (answer_there i lt ∙ ap (answer m (bodies m (items t) 0 start) (slate_after m t (take i os))) is)) (bind_told m (bodies m (items t) 0 start) (slate_after m t (take i os)) h v);
      releases_told = λ i h lt is. subst (ReleaseTold (slate_after m t (take i os)) h) (sym (answer_there i lt ∙ ap (answer m (bodies m (items t) 0 start) (slate_after m t (take i os))) is)) (release_told (slate_after m t (take i os)) h);
      values_stay = stays m (bodies m (items t) 0 start) (fresh (holes (items t))) os;
      finish_exact = (finish_owes n (slate_after m t os), owes_finish n (slate_after m t os));
      finish_lowest = finish_names n (slate_after m t os);
      finish_count = λ k q. finish_counts n k (slate_after m t os) q ∙ a.count;
      print_exact = λ filled. (text_there.0, text_there.1, λ out. prints text_there.0 text_there.1 (length out));
      reads_as_plan = λ w is. (a.tokens, a.planned, text_reads_as_plan_lem m sound (items t) (values_on (slate_after m t os)) a.tokens w a.planned is);
      plan_marks = plan_marks_holes_lem m sound (items t);
      others_answer_alike = λ k ps alike. let ss = fresh (holes (items t)) in others_alike m (bodies m (items t) 0 start) k alike ss ss (agree_refl k ss);
      others_hold_alike = λ k ps alike j ne. (agree k ps alike).at j None ne;
      others_read_alike = read_alike;
      refusal_exact = exact;
      refusal_place = first;
      owed_unprinted = λ o. refused_print finish print old (owes_finish n (slate_after m t os) o);
      filled_printed = filled_prints;
    }

pub promise_kept : PromiseKept
promise_kept m sound t n bs e = let a = accepted_is m t n bs e in (a.count, a.bodied, kept m sound t n bs e a)
