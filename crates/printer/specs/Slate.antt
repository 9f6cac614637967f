-- The slate of a template under a host: for each hole its value or, with None, that it is owed. What it says of binds and releases, and what they change on it.
use Rattle.std.specs.Prelude.{ℕ, suc, ◌+◌, Bool, true, false, cond, List, [], ◌∷◌, length, replicate, is_some, Some, None, Ok, Err, Option, Result, nat_lt, slice_index, slice_index_or, slice_set}
use Rattle.std.specs.Option.{option_map}
use Rattle.std.specs.List.{prefix_len}
use Rattle.host.specs.Meaning.{Meaning}
use Rattle.fault.specs.Refusal.{Refusal, of_hole}

abbrev pub Slate : Type 0
Slate = List (Option (List ℕ))

-- At first every hole is owed.
abbrev pub fresh : ℕ → Slate
fresh n = replicate n None

abbrev pub owes : Option (List ℕ) → Bool
owes None = true
owes (Some v) = false

-- Past the last hole nothing is owed.
abbrev pub owed_at : Slate → ℕ → Bool
owed_at ss k = owes (slice_index_or ss k (Some []))

abbrev pub digit : Option (List ℕ) → ℕ
digit None = 1
digit (Some v) = 0

-- How many holes are owed, and the lowest of them.
abbrev pub how_many : Slate → ℕ
how_many [] = 0
how_many (s ∷ ss) = digit s + how_many ss

abbrev pub lowest : Slate → Option ℕ
lowest [] = None
lowest (s ∷ ss) = cond (owes s) (Some 0) (option_map suc (lowest ss))

-- The value of each hole, empty where it is owed.
abbrev pub value_or_none : Option (List ℕ) → List ℕ
value_or_none None = []
value_or_none (Some v) = v

abbrev pub values_on : Slate → ℕ → List ℕ
values_on ss k = value_or_none (slice_index_or ss k None)

-- Whether a body spells a byte.
abbrev pub spells : Meaning → ℕ → ℕ → Bool
spells m body b = is_some (m.spelling body b)

-- The judgments answer None where the call is taken. 13: a byte that the body turns away; as many bytes stand before the first such byte as
-- the value has leading bytes that the body spells.
abbrev pub judge_bytes : Meaning → ℕ → ℕ → List ℕ → Option Refusal
judge_bytes m hole body v =
    let i = prefix_len (spells m body) v in cond (nat_lt i (length v)) (Some (of_hole 13 hole i)) None

-- 12: over 160 bytes
abbrev pub judge_value : Meaning → ℕ → ℕ → List ℕ → Option Refusal
judge_value m hole body v = cond (nat_lt 160 (length v)) (Some (of_hole 12 hole 160)) (judge_bytes m hole body v)

-- 10: no such hole, 11: not owed. n is the count of holes, and `owed` whether this hole is owed.
abbrev pub judge_bind_lem : Meaning → List ℕ → ℕ → Bool → ℕ → List ℕ → Option Refusal
judge_bind_lem m bodies n owed hole v =
    cond (nat_lt hole n) (cond owed (judge_value m hole (slice_index bodies hole) v) (Some (of_hole 11 hole 0))) (Some (of_hole 10 hole 0))

-- 10: no such hole, 14: owed already
abbrev pub judge_release_lem : ℕ → Bool → ℕ → Option Refusal
judge_release_lem n owed hole = cond (nat_lt hole n) (cond owed (Some (of_hole 14 hole 0)) None) (Some (of_hole 10 hole 0))

-- 15: the lowest owed hole stands in the way of a finish, which else answers the count of holes.
abbrev pub judge_finish_lem : ℕ → Option ℕ → Result ℕ Refusal
judge_finish_lem n None = Ok n
judge_finish_lem n (Some k) = Err (of_hole 15 k 0)

-- What is taken changes, and what is refused stays.
abbrev pub settled : {A : Type 0} → Option Refusal → A → A → A
settled None new old = new
settled (Some r) new old = old

abbrev pub verdict_release : Slate → ℕ → Option Refusal
verdict_release ss hole = judge_release_lem (length ss) (owed_at ss hole) hole

abbrev pub released : Slate → ℕ → Slate
released ss hole = settled (verdict_release ss hole) (slice_set ss hole None) ss

-- `bodies` are those of the template's holes under the host.
abbrev pub verdict_bind : Meaning → List ℕ → Slate → ℕ → List ℕ → Option Refusal
verdict_bind m bodies ss hole v = judge_bind_lem m bodies (length ss) (owed_at ss hole) hole v

abbrev pub bound : Meaning → List ℕ → Slate → ℕ → List ℕ → Slate
bound m bodies ss hole v = settled (verdict_bind m bodies ss hole v) (slice_set ss hole (Some v)) ss
