-- What the code's lines, answers and outcomes say.
use Rattle.std.specs.Prelude.{◌≡◌, ℕ, ◌<◌, ◌≤◌, List, ◌++◌, map, Some, None, Ok, Err, Option, Result}
use Rattle.std.specs.Option.{option_map}
use Rattle.host.specs.Meaning.{Meaning}
use Rattle.fault.specs.declared.failure.Failure.{Failure}
use Rattle.fault.specs.declared.failure.Failure.TheVariants.{Refused, NoMemory}
use Rattle.fault.specs.declared.fault.Fault.{Fault}
use Rattle.fault.specs.Refusal.{Refusal, refusal_of, told, of_template}
use Rattle.template.specs.Judging.{Verdict, refused as unfit, accepted}
use Rattle.printer.specs.declared.row.Row.{Row}
use Rattle.printer.specs.Held.{State, Tracks}
use Rattle.printer.specs.Printing.{weight, output}
use Rattle.worklist.specs.declared.line.Line.{Line}
use Rattle.worklist.specs.declared.line.Line.TheVariants.{Bind, Release, Owed}
use Rattle.worklist.specs.declared.line.Answer.{Answer}
use Rattle.worklist.specs.declared.line.Answer.TheVariants as said
use Rattle.worklist.specs.declared.outcome.Worked.{Worked}
use Rattle.worklist.specs.Lines.{Order, bind, release, owed, Reply, taken, refused, owes_now, answers, final}
use Rattle.worklist.specs.Promise.{Kept}

abbrev pub order_of : Line → Order
order_of (Bind hole value) = bind hole value.now
order_of (Release hole) = release hole
order_of Owed = owed

abbrev pub reply_of : Answer → Reply
reply_of said.Taken = taken
reply_of (said.Refused f) = refused (refusal_of f)
reply_of (said.Owed count low) = owes_now count low

abbrev pub print_of : Option (Result ℕ Fault) → Option (Result ℕ Refusal)
print_of p = option_map told p

-- The answers `all` are those of before, and then those that going down the lines came to.
pub record GoneDown (m : Meaning) (bodies : List ℕ) (st st' : State) (before all : List Answer) (ls : List Line) : Type 0 where
  pub new : List Answer
  pub added : all ≡ before ++ new
  pub tracks : Tracks st st' (map reply_of new) (λ ss. answers m bodies ss (map order_of ls)) (λ ss. final m bodies ss (map order_of ls))

-- The answers `all` are those of before and then new ones, of which the promise is kept.
pub record AddsKept (m : Meaning) (t : List ℕ) (ls : List Line) (before all : List Answer) (rows : List Row) (w : Worked) (old new : List ℕ) : Type 0 where
  pub answered : List Answer
  pub added : all ≡ before ++ answered
  pub kept : Kept m t (map order_of ls) (map reply_of answered) rows (told w.finish) (print_of w.print) old new

-- What a finish and the print after it come to, where the print comes to x.
abbrev pub print_after : Result ℕ Refusal → Result (List ℕ) Refusal → Option (Result ℕ Refusal)
print_after (Ok n) x = Some (weight x)
print_after (Err r) x = None

abbrev pub output_after : Result ℕ Refusal → List ℕ → Result (List ℕ) Refusal → List ℕ
output_after (Ok n) old x = output old x
output_after (Err r) old x = old

-- The refusal of the template, if that is the answer; and the one that a verdict has.
abbrev pub refusal_by : {A : Type 0} → Result A (Failure Fault) → Option Refusal
refusal_by (Ok x) = None
refusal_by (Err (Refused f)) = Some (refusal_of f)
refusal_by (Err NoMemory) = None

abbrev pub verdict_refusal : Verdict → Option Refusal
verdict_refusal (unfit r) = Some (of_template r)
verdict_refusal (accepted n bodies) = None

-- Memory is refused only where the room that there was is too small.
abbrev pub LackedRoom : {A : Type 0} → Result A (Failure Fault) → ℕ → ℕ → Type 0
LackedRoom (Ok x) had needed = Unit {0}
LackedRoom (Err (Refused f)) had needed = Unit {0}
LackedRoom (Err NoMemory) had needed = had < needed

-- The vector has the room that it had, where the call is refused or lacks memory, and else no less.
abbrev pub KeptRoom : {A : Type 0} → Result A (Failure Fault) → ℕ → ℕ → Type 0
KeptRoom (Ok x) had has = had ≤ has
KeptRoom (Err u) had has = has ≡ had

-- Everything is as it was found, where the call is refused or lacks memory.
pub record AsFound {A : Type 0} (r : Result A (Failure Fault)) (rows rows' : List Row) (answers answers' : List Answer) (old new : List ℕ) : Type 0 where
  pub sheet : (u : Failure Fault) → r ≡ Err u → rows' ≡ rows
  pub vector : (u : Failure Fault) → r ≡ Err u → answers' ≡ answers
  pub output : (u : Failure Fault) → r ≡ Err u → new ≡ old
