-- What a filling and the rows of its sheet hold, what the calls change of it, and how it holds a slate.
use Rattle.std.specs.Prelude.{◌≡◌, ℕ, ◌+◌, ◌-◌, ◌*◌, ◌/◌, ◌%◌, ◌^◌, Bool, cond, List, [], ◌∷◌, ◌++◌, map, length, Some, None, Option, Result, ◌==◌, slice_set}
use Rattle.std.specs.Int.Count.{count_trailing_zeros}
use Rattle.host.specs.Meaning.{Meaning}
use Rattle.fault.specs.Refusal.{Refusal, unfit}
use Rattle.template.specs.Judging.{Verdict, refused, accepted, verdict}
use Rattle.printer.specs.declared.row.Row.{Row}
use Rattle.printer.specs.Rows.{row_of, blank}
use Rattle.printer.specs.Slate.{Slate, digit, judge_bind_lem, judge_release_lem, judge_finish_lem}

-- Hole k stands at bit k, and its bit is 1 where it is owed.
abbrev pub owed_map : Slate → ℕ
owed_map [] = 0
owed_map (s ∷ ss) = owed_map ss * 2 + digit s

-- The 64 rows of a slate: those of its holes, and empty ones.
abbrev pub rows_of : Slate → List Row
rows_of ss = map row_of ss ++ blank (64 - length ss)

-- What a map says: whether a hole is owed, and the lowest that is.
abbrev pub owed_bit : ℕ → ℕ → Bool
owed_bit owed k = owed / 2 ^ k % 2 == 1

abbrev pub lowest_bit : ℕ → Option ℕ
lowest_bit owed = cond (owed == 0) None (Some (count_trailing_zeros 64 owed))

-- What a filling and its sheet have come to: the count of holes, the map of those owed, and the rows.
pub record State : Type 0 where
  pub holes : ℕ
  pub owed : ℕ
  pub rows : List Row

-- Every hole is owed, and every row is empty.
abbrev pub opened : ℕ → State
opened n = record { holes = n; owed = 2 ^ n - 1; rows = blank 64 }

-- A hole gets its value, and a hole loses it: no other bit and no other row changes.
abbrev pub filled : State → ℕ → List ℕ → State
filled st hole v = record { holes = st.holes; owed = st.owed - 2 ^ hole; rows = slice_set st.rows hole (row_of (Some v)) }

abbrev pub freed : State → ℕ → State
freed st hole = record { holes = st.holes; owed = st.owed + 2 ^ hole; rows = slice_set st.rows hole (row_of None) }

-- A bind under a host that refuses the template: 9. Under another it is judged by the bodies of the template's holes.
abbrev pub judged_by : Meaning → Verdict → State → ℕ → List ℕ → Option Refusal
judged_by m (refused r) st hole v = Some (unfit r)
judged_by m (accepted n bodies) st hole v = judge_bind_lem m bodies st.holes (owed_bit st.owed hole) hole v

-- The judgments of a bind, of a release and of a finish.
abbrev pub judged_bind : Meaning → List ℕ → State → ℕ → List ℕ → Option Refusal
judged_bind m t st hole v = judged_by m (verdict m t) st hole v

abbrev pub judged_release : State → ℕ → Option Refusal
judged_release st hole = judge_release_lem st.holes (owed_bit st.owed hole) hole

abbrev pub judged_finish : ℕ → ℕ → Result ℕ Refusal
judged_finish holes owed = judge_finish_lem holes (lowest_bit owed)

-- A filling's count and map are those of the slate.
pub record Marks (holes owed : ℕ) (ss : Slate) : Type 0 where
  pub count : length ss ≡ holes
  pub bits : owed ≡ owed_map ss

-- And so are the rows of its sheet.
pub record Holds (st : State) (ss : Slate) : Type 0 where
  pub marks : Marks st.holes st.owed ss
  pub laid : st.rows ≡ rows_of ss

-- A call finds a state, leaves another and says something: whatever slate the first holds, the call says what that slate answers, and
-- the other holds the slate that comes next.
abbrev pub Tracks : {A : Type 0} → State → State → A → (Slate → A) → (Slate → Slate) → Type 0
Tracks st st' said answer next = (ss : Slate) → Holds st ss → (said ≡ answer ss) × Holds st' (next ss)

-- The same of a call that goes by the bodies of the template's holes, where the host accepts the template.
abbrev pub TracksUnder : {A : Type 0} → Verdict → State → State → A → (List ℕ → Slate → A) → (List ℕ → Slate → Slate) → Type 0
TracksUnder (refused r) st st' said answer next = Unit {0}
TracksUnder (accepted n bodies) st st' said answer next = Tracks st st' said (answer bodies) (next bodies)

-- A state holds one slate at most.
abbrev pub OneSlate : Type 0
OneSlate = (st : State) (ss ts : Slate) → Holds st ss → Holds st ts → ss ≡ ts
