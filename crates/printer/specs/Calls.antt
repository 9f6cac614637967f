-- What the calls' answers and arguments say.
use Rattle.std.specs.Prelude.{ℕ, List, Some, None, Ok, Err, Option, Result}
use Rattle.fault.specs.declared.fault.Fault.{Fault}
use Rattle.fault.specs.Refusal.{Refusal, refusal_of, unfit}
use Rattle.host.specs.Answers.{bytes_of}
use Rattle.template.specs.declared.survey.Survey.{Survey}
use Rattle.template.specs.Judging.{Verdict, refused, accepted}
use Rattle.printer.specs.declared.borrowed.BorrowedTable.{BorrowedTable}
use Rattle.printer.specs.declared.filling.Filling.{Filling}
use Rattle.printer.specs.declared.table.Table.{Table}
use Rattle.printer.specs.Borrowed.{rows_in}
use Rattle.printer.specs.Held.{State}

-- The state that a filling and the table of its sheet have.
abbrev pub state_of : Filling → Table → State
state_of f t = record { holes = f.holes; owed = f.owed; rows = t.rows }

-- The same with a table that borrows the values.
abbrev pub borrowed_state : Filling → BorrowedTable → State
borrowed_state f t = record { holes = f.holes; owed = f.owed; rows = rows_in t.rows }

-- The refusal of a call, None where it is taken.
abbrev pub refusal_in : {A : Type 0} → Result A Fault → Option Refusal
refusal_in (Ok x) = None
refusal_in (Err f) = Some (refusal_of f)

-- The bodies of a template's holes, by its survey.
abbrev pub bodies_of : Survey → List ℕ
bodies_of s = bytes_of s.bodies

-- What a survey under a sheet's host says: the holes and their bodies, or 9.
abbrev pub surveyed_of : Result Survey Fault → Result (ℕ × List ℕ) Refusal
surveyed_of (Ok s) = Ok (s.bodies.len, bodies_of s)
surveyed_of (Err f) = Err (refusal_of f)

abbrev pub fitting_host : Verdict → Result (ℕ × List ℕ) Refusal
fitting_host (refused r) = Err (unfit r)
fitting_host (accepted n bodies) = Ok (n, bodies)
