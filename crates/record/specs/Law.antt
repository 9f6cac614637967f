-- What reading has to do with writing. Assumes nothing.
use Rattle.std.specs.Prelude.{◌≡◌, ℕ, ◌+◌, cond, List, ◌++◌, length, is_ok, IfOk, Some, None, Option, Result}
use Rattle.fault.specs.declared.fault.Fault.{Fault}
use Rattle.fault.specs.declared.failure.Failure.{Failure}
use Rattle.fault.specs.Refusal.{Refusal}
use Rattle.record.specs.Format.{Pair, packed, Good, Stands}
use Rattle.record.specs.Reading.{Answer, found, refused, read_at}
use Rattle.record.specs.Writing.{refused_pairs, refusal_in, RefusedRoom}

-- The pairs of a good record are read back from its written form, with the places of its end and after it.
pub record ReadsBack (place : ℕ) (a : Answer) (ps : List Pair) : Type 0 where
  pub end : ℕ
  pub is : a ≡ found ps end (end + 3)
  pub next : end + 3 ≡ place + length (packed ps)

-- What is read was the written form of a good record, at that place.
pub record WasWritten (input : List ℕ) (place end next : ℕ) (ps : List Pair) : Type 0 where
  pub good : Good ps
  pub stands : Stands ps input place
  pub ends : end + 3 ≡ next
  pub next_is : next ≡ place + length (packed ps)

-- Both, of what is answered at a place.
pub record Law (input : List ℕ) (place : ℕ) (a : Answer) : Type 0 where
  pub back : (ps : List Pair) → Good ps → Stands ps input place → ReadsBack place a ps
  pub was : (ps : List Pair) (end next : ℕ) → a ≡ found ps end next → WasWritten input place end next ps

-- The bytes of a file hold a good record at a place: it is read back there as those pairs, whatever comes after it.
pub record Kept (file : List ℕ) (place : ℕ) (ps : List Pair) : Type 0 where
  pub good : Good ps
  pub back : (after : List ℕ) → ReadsBack place (read_at (file ++ after) place) ps

-- The writer refuses just the pairs that are no good record.
pub record Just (place : ℕ) (ps : List Pair) : Type 0 where
  pub good : refused_pairs place ps ≡ None → Good ps
  pub taken : Good ps → refused_pairs place ps ≡ None

abbrev pub RefusedOrGood : Type 0
RefusedOrGood = (place : ℕ) (ps : List Pair) → Just place ps

-- What is read where pairs stand in written form, though they be no good record: the writer's refusal, or else the pairs.
abbrev pub Agrees : ℕ → List Pair → Option Refusal → Answer → Type 0
Agrees place ps None a = ReadsBack place a ps
Agrees place ps (Some r) a = a ≡ refused r

abbrev pub ReaderAndWriterAgree : Type 0
ReaderAndWriterAgree = (ps : List Pair) (input : List ℕ) (place : ℕ) → Stands ps input place → Agrees place ps (refused_pairs place ps) (read_at input place)

-- What came of writing the pairs after the bytes `before`, where there was room for `room` bytes in all: the bytes `after`, and the answer.
pub record Wrote (room : ℕ) (before after : List ℕ) (ps : List Pair) (r : Result (Unit {0}) (Failure Fault)) : Type 0 where
  -- the pairs are judged
  pub refuses : refusal_in r ≡ refused_pairs (length before) ps
  -- their written form is added, or nothing
  pub bytes : after ≡ cond (is_ok r) (before ++ packed ps) before
  -- memory is refused only where it is needed
  pub memory : RefusedRoom r room (length before + length (packed ps))
  -- and what was added is a good record, and is read back
  pub kept : IfOk r (λ _. Kept after (length before) ps)
