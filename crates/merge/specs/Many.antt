-- What merging records one after another comes to.
use Rattle.std.specs.Prelude.{ℕ, zero, suc, ◌+◌, ◌-◌, List, [], ◌++◌, length, drop, Some, None, Ok, Err, Option, Result}
use Rattle.std.specs.Option.{option_map}
use Rattle.host.specs.Meaning.{Meaning}
use Rattle.fault.specs.Refusal.{Refusal, of_template, refusal_of}
use Rattle.template.specs.Judging.{Verdict, refused, accepted, verdict}
use Rattle.merge.specs.declared.merged.Merges.{Merges}
use Rattle.merge.specs.Merging.{merged}

-- How many records are merged, the place after the last of them, their texts one after another, and what stopped it, if a refusal did.
pub record Many : Type 0 where
  pub count : ℕ
  pub next : ℕ
  pub text : List ℕ
  pub refusal : Option Refusal

abbrev pub none_more : ℕ → Option Refusal → Many
none_more place r = record { count = 0; next = place; text = []; refusal = r }

-- Some records and their texts, before others.
abbrev pub before : ℕ → List ℕ → Many → Many
before n w ms = record { count = n + ms.count; next = ms.next; text = w ++ ms.text; refusal = ms.refusal }

-- What one merge comes to, and those after it, which go on at its next place with what is left of the room.
abbrev pub and_more : Result (Option (ℕ × List ℕ)) Refusal → ℕ → (ℕ → ℕ → Many) → Many
and_more (Ok (Some x)) place more = before 1 x.1 (more x.0 (length x.1))
and_more (Ok None) place more = none_more place None
and_more (Err r) place more = none_more place (Some r)

-- At most `most` records from a place on, into a room.
abbrev pub merged_on : Meaning → List ℕ → List ℕ → ℕ → ℕ → ℕ → Many
merged_on m t input zero place room = none_more place None
merged_on m t input (suc most) place room = and_more (merged m t input place room) place (λ next len. merged_on m t input most next (room - len))

abbrev pub merged_by_verdict : Verdict → Meaning → List ℕ → List ℕ → ℕ → ℕ → ℕ → Many
merged_by_verdict (refused r) m t input most place room = none_more place (Some (of_template r))
merged_by_verdict (accepted n bodies) m t input most place room = merged_on m t input most place room

-- The same with a template that the host may refuse, also where no record is asked for.
abbrev pub merged_many : Meaning → List ℕ → List ℕ → ℕ → ℕ → ℕ → Many
merged_many m t input place most room = merged_by_verdict (verdict m t) m t input most place room

-- In numbers: the texts by their length.
abbrev pub many_told : Merges → ℕ × ℕ × ℕ × Option Refusal
many_told s = (s.count, s.next, s.len, option_map refusal_of s.refusal)

abbrev pub many_weighed : Many → ℕ × ℕ × ℕ × Option Refusal
many_weighed ms = (ms.count, ms.next, length ms.text, ms.refusal)

-- What an output holds after them: the texts from its start, and the bytes after them as they were.
abbrev pub many_written : List ℕ → Many → List ℕ
many_written old ms = ms.text ++ drop (length ms.text) old
