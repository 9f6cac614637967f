-- What merging a record into a template comes to, by the definitions of the calls that it is made of: check, record, open, a bind for each hole, finish and print.
use Rattle.std.specs.Prelude.{ℕ, ◌+◌, List, [], ◌∷◌, Some, None, Ok, Err, Option, Result}
use Rattle.host.specs.Meaning.{Meaning}
use Rattle.fault.specs.Refusal.{Refusal, of_template, of_hole}
use Rattle.template.specs.Judging.{Verdict, refused, accepted, verdict}
use Rattle.template.specs.Items.{names}
use Rattle.record.specs.Answers.{value_of}
use Rattle.record.specs.Format.{Pair}
use Rattle.record.specs.Reading.{Answer, found, none, refused as faulty, read_at}
use Rattle.printer.specs.Held.{State, opened, filled, judged_by, judged_finish}
use Rattle.printer.specs.Passes.{and_then}
use Rattle.printer.specs.Printing.{printed, after}
use Rattle.printer.specs.Rows.{value_at}

-- A bind as it is judged: the state after it, or the refusal.
abbrev pub bound_as : Option Refusal → State → Result State Refusal
bound_as None st = Ok st
bound_as (Some r) st = Err r

-- The bind of hole k to what the record has of its name, under the verdict d on the template. 30: the record has nothing of it; the place is
-- that of the record's end.
abbrev pub bind_named_lem : Meaning → Verdict → ℕ → State → ℕ → Option (List ℕ) → Result State Refusal
bind_named_lem m d end st k None = Err (of_hole 30 k end)
bind_named_lem m d end st k (Some v) = bound_as (judged_by m d st k v) (filled st k v)

-- The binds of the holes from k on, which have these names.
abbrev pub bind_all : Meaning → Verdict → List Pair → ℕ → State → ℕ → List (List ℕ) → Result State Refusal
bind_all m d ps end st k [] = Ok st
bind_all m d ps end st k (n ∷ ns) = and_then (bind_named_lem m d end st k (value_of n ps)) (λ st'. bind_all m d ps end st' (k + 1) ns)

-- Finish and print: the next place and the text.
abbrev pub completed : Meaning → List ℕ → ℕ → ℕ → State → Result (ℕ × List ℕ) Refusal
completed m t room next st = and_then (judged_finish st.holes st.owed) (λ _. after (λ w. (next, w)) (printed m (value_at st.rows) t room))

-- Open, bind, finish and print, with the pairs of a record.
abbrev pub with_pairs : Meaning → Verdict → List ℕ → ℕ → ℕ → List Pair → ℕ → ℕ → Result (ℕ × List ℕ) Refusal
with_pairs m d t n room ps end next = and_then (bind_all m d ps end (opened n) 0 (names t)) (completed m t room next)

-- The same with what is read: nothing comes of the input's end.
abbrev pub with_record : Meaning → Verdict → List ℕ → ℕ → ℕ → Answer → Result (Option (ℕ × List ℕ)) Refusal
with_record m d t n room (found ps end next) = after (λ x. Some x) (with_pairs m d t n room ps end next)
with_record m d t n room none = Ok None
with_record m d t n room (faulty q) = Err q

abbrev pub merged_by : Verdict → Meaning → List ℕ → List ℕ → ℕ → ℕ → Result (Option (ℕ × List ℕ)) Refusal
merged_by (refused r) m t input place room = Err (of_template r)
merged_by (accepted n bodies) m t input place room = with_record m (accepted n bodies) t n room (read_at input place)

-- The template t, the input and a place in it, and an output of `room` bytes: the next place and the text, or none at the input's end.
abbrev pub merged : Meaning → List ℕ → List ℕ → ℕ → ℕ → Result (Option (ℕ × List ℕ)) Refusal
merged m t input place room = merged_by (verdict m t) m t input place room
