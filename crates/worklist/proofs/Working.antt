-- From the answers of the calls that going down a list makes to the promise.
use Rattle.std.proofs.Common.{◌≡◌, ℕ, ◌≤◌, List, map, length, Option, Result, sym, ap, ◌∙◌, subst, ap₂, arith}
use Rattle.host.specs.Meaning.{Meaning, Sound}
use Rattle.fault.specs.Refusal.{Refusal, told}
use Rattle.template.specs.declared.survey.Survey.{Survey}
use Rattle.template.specs.Judging.{verdict, survey_of}
use Rattle.template.proofs.Accepted.{accepted_is}
use Rattle.printer.specs.declared.row.Row.{Row}
use Rattle.printer.specs.Calls.{bodies_of}
use Rattle.printer.specs.Held.{State, Holds, rows_of, judged_finish}
use Rattle.printer.specs.Passes.{walked}
use Rattle.printer.specs.Printing.{printed}
use Rattle.printer.specs.Rows.{value_at}
use Rattle.printer.specs.Slate.{fresh, lowest, judge_finish_lem}
use Rattle.printer.proofs.Linked.{low_is}
use Rattle.printer.proofs.Turned.{walked_printed}
use Rattle.worklist.specs.declared.line.Line.{Line}
use Rattle.worklist.specs.declared.line.Answer.{Answer}
use Rattle.worklist.specs.declared.outcome.Worked.{Worked}
use Rattle.worklist.specs.Calls.{order_of, reply_of, print_of, GoneDown, AddsKept, print_after, output_after}
use Rattle.worklist.specs.Lines.{Order, Reply, answers, final}
use Rattle.worklist.specs.Promise.{slate_after, slate_answers, Kept}
use Rattle.worklist.proofs.Slates.{as_many}
use Rattle.worklist.proofs.Keeping.{promise_kept}

-- the promise, of answers, rows, a finish and a print that are the slate's
moved : (m : Meaning) (t : List ℕ) (os : List Order) {rs rs' : List Reply} {rows rows' : List Row} {f f' : Result ℕ Refusal} {p p' : Option (Result ℕ Refusal)} (old : List ℕ) {new new' : List ℕ} → rs ≡ rs' → rows ≡ rows' → f ≡ f' → p ≡ p' → new ≡ new' → Kept m t os rs rows f p old new → Kept m t os rs' rows' f' p' old new'
moved m t os {rs'} {rows} {rows'} {f} {f'} {p} {p'} old {new} {new'} a b c d e k =
    subst (λ (x : List ℕ). Kept m t os rs' rows' f' p' old x) e
    (subst (λ (x : Option (Result ℕ Refusal)). Kept m t os rs' rows' f' x old new) d
    (subst (λ (x : Result ℕ Refusal). Kept m t os rs' rows' x p old new) c
    (subst (λ (x : List Row). Kept m t os rs' x f p old new) b
    (subst (λ (x : List Reply). Kept m t os x rows f p old new) a k))))

module _ (m : Meaning) (sound : Sound m) (t : List ℕ) (s : Survey) (judged : verdict m t ≡ survey_of s) (ls : List Line) (st₀ st₁ : State) (begun : Holds st₀ (fresh s.bodies.len)) (before all : List Answer) (gone : GoneDown m (bodies_of s) st₀ st₁ before all ls) where
  -- the slate of the template after the list, as the survey has it
  slate_is : final m (bodies_of s) (fresh s.bodies.len) (map order_of ls) ≡ slate_after m t (map order_of ls)
  slate_is = let a = accepted_is m t s.bodies.len (bodies_of s) judged in ap₂ (λ (bs : List ℕ) (k : ℕ). final m bs (fresh k) (map order_of ls)) a.bodied a.count

  answers_are : map reply_of gone.new ≡ slate_answers m t (map order_of ls)
  answers_are =
      let a = accepted_is m t s.bodies.len (bodies_of s) judged in
      (gone.tracks (fresh s.bodies.len) begun).0 ∙ ap₂ (λ (bs : List ℕ) (k : ℕ). answers m bs (fresh k) (map order_of ls)) a.bodied a.count

  rows_are : st₁.rows ≡ rows_of (slate_after m t (map order_of ls))
  rows_are = (gone.tracks (fresh s.bodies.len) begun).1.laid ∙ ap rows_of slate_is

  finish_is : judged_finish st₁.holes st₁.owed ≡ judge_finish_lem s.bodies.len (lowest (slate_after m t (map order_of ls)))
  finish_is =
      let marks = (gone.tracks (fresh s.bodies.len) begun).1.marks in
      let many : st₁.holes ≡ s.bodies.len = sym marks.count ∙ as_many m (bodies_of s) s.bodies.len (map order_of ls) in
      let few : st₁.holes ≤ 64 = omega (arith, (accepted_is m t s.bodies.len (bodies_of s) judged).few) in
      ap₂ judge_finish_lem many (low_is st₁.holes st₁.owed _ few marks ∙ ap lowest slate_is)

  -- what the calls after the list say, by the print of the slate's rows
  print_is : (room : ℕ) → walked m (value_at st₁.rows) t room ≡ printed m (value_at (rows_of (slate_after m t (map order_of ls)))) t room
  print_is room = walked_printed m (value_at st₁.rows) t s.bodies.len (bodies_of s) judged room ∙ ap (λ (rs : List Row). printed m (value_at rs) t room) rows_are

  pub worked : (w : Worked) (old new : List ℕ)
      → told w.finish ≡ judged_finish st₁.holes st₁.owed
      → print_of w.print ≡ print_after (judged_finish st₁.holes st₁.owed) (walked m (value_at st₁.rows) t (length old))
      → new ≡ output_after (judged_finish st₁.holes st₁.owed) old (walked m (value_at st₁.rows) t (length old))
      → AddsKept m t ls before all st₁.rows w old new
  worked w old new finished printed_so wrote =
      let x = print_is (length old) in
      record {
        answered = gone.new;
        added = gone.added;
        kept =
            moved m t (map order_of ls) old (sym answers_are) (sym rows_are) (sym (finished ∙ finish_is)) (sym (printed_so ∙ ap₂ print_after finish_is x)) (sym (wrote ∙ ap₂ (λ f y. output_after f old y) finish_is x))
            ((promise_kept m sound t s.bodies.len (bodies_of s) judged).2 (map order_of ls) old);
      }
