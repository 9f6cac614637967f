-- What the answers of the code say, and the pieces that its loop goes over.
use Rattle.std.specs.Prelude.{ℕ, ◌+◌, List, ◌++◌, length, take, drop, Some, None, Ok, Err, Option, Result}
use Rattle.std.specs.Option.{option_map}
use Rattle.host.specs.Meaning.{Meaning}
use Rattle.fault.specs.declared.fault.Fault.{Fault}
use Rattle.fault.specs.Refusal.{Refusal, of_template, refusal_of}
use Rattle.template.specs.Judging.{Verdict}
use Rattle.template.specs.Lexing.{Lexed, byte, hole, end, fault}
use Rattle.record.specs.declared.shape.Record.{Record}
use Rattle.record.specs.Answers.{value_of, pairs_of}
use Rattle.record.specs.Format.{Pair}
use Rattle.printer.specs.Held.{State}
use Rattle.printer.specs.Passes.{and_then}
use Rattle.printer.specs.Printing.{after}
use Rattle.merge.specs.declared.merged.Merged.{Merged}
use Rattle.merge.specs.declared.source.Source.{Source}
use Rattle.merge.specs.Merging.{bind_named_lem}

-- The place after the record, and the length of the text.
abbrev pub told_of : Merged → ℕ × ℕ
told_of x = (x.next, x.len)

abbrev pub merged_of : Result (Option Merged) Fault → Result (Option (ℕ × ℕ)) Refusal
merged_of (Ok x) = Ok (option_map told_of x)
merged_of (Err f) = Err (refusal_of f)

abbrev pub completed_of : Result Merged Fault → Result (ℕ × ℕ) Refusal
completed_of (Ok x) = Ok (told_of x)
completed_of (Err f) = Err (refusal_of f)

-- The same of what is defined: the text by its length.
abbrev pub measured : ℕ × List ℕ → ℕ × ℕ
measured x = (x.0, length x.1)

abbrev pub weighed : Result (Option (ℕ × List ℕ)) Refusal → Result (Option (ℕ × ℕ)) Refusal
weighed x = after (option_map measured) x

abbrev pub weighed_one : Result (ℕ × List ℕ) Refusal → Result (ℕ × ℕ) Refusal
weighed_one x = after measured x

-- What the output holds after it: the text from its start, and the bytes after it as they were; or all as it was.
abbrev pub laid_over : List ℕ → Result (ℕ × List ℕ) Refusal → List ℕ
laid_over old (Ok x) = x.1 ++ drop (length x.1) old
laid_over old (Err r) = old

abbrev pub written : List ℕ → Result (Option (ℕ × List ℕ)) Refusal → List ℕ
written old (Ok (Some x)) = x.1 ++ drop (length x.1) old
written old (Ok None) = old
written old (Err r) = old

-- The state that a call has come to, or its refusal.
abbrev pub came_to : Result (Unit {0}) Fault → State → Result State Refusal
came_to (Ok x) st = Ok st
came_to (Err f) st = Err (refusal_of f)

-- The pairs of a record that was found in an input.
abbrev pub record_pairs : List ℕ → Record → List Pair
record_pairs input r = pairs_of input (take r.count r.entries)

abbrev pub source_pairs : Source → List Pair
source_pairs s = record_pairs s.input.now s.found.now

-- The binds of the pieces that are left of a template; a fault of notation stops them, as a check tells it.
abbrev pub bind_pieces : Meaning → Verdict → List Pair → ℕ → State → ℕ → Lexed → Result State Refusal
bind_pieces m d ps e st k (byte p b rest) = bind_pieces m d ps e st k rest
bind_pieces m d ps e st k (hole p n rest) = and_then (bind_named_lem m d e st k (value_of n ps)) (λ st'. bind_pieces m d ps e st' (k + 1) rest)
bind_pieces m d ps e st k (end p) = Ok st
bind_pieces m d ps e st k (fault r) = Err (of_template r)
