-- What writing a record answers. Assumes nothing.
use Rattle.std.specs.Prelude.{ℕ, ◌+◌, ◌<◌, cond, List, [], ◌∷◌, ◌++◌, map, length, Some, None, Ok, Err, Option, Result, nat_le, nat_lt}
use Rattle.fault.specs.declared.fault.Fault.{Fault}
use Rattle.fault.specs.declared.failure.Failure.{Failure}
use Rattle.fault.specs.declared.failure.Failure.TheVariants.{Refused, NoMemory}
use Rattle.fault.specs.Refusal.{Refusal, refusal_of, plain}
use Rattle.record.specs.declared.writer.Pair.{Pair as Lent}
use Rattle.record.specs.Names.{good_name}
use Rattle.record.specs.Format.{Pair}
use Rattle.record.specs.Reading.{named}

-- The bytes of a pair that is lent.
abbrev pub pair_in : Lent → Pair
pair_in p = (p.name.now, p.value.now)

abbrev pub pairs_in : List Lent → List Pair
pairs_in ps = map pair_in ps

-- The place after a pair whose name's tag stands at the place p.
abbrev pub after_pair : ℕ → Pair → ℕ
after_pair p q = p + (3 + length q.0) + (3 + length q.1)

-- Why a pair may not stand at the place p, after the pairs ps: first its name's field, then its value's.
abbrev pub wrong_pair : List Pair → ℕ → Pair → Option Refusal
wrong_pair ps p q =
    cond (good_name q.0)
    (cond (nat_lt (length ps) 64)
    (cond (named q.0 ps) (Some (plain 26 p))
    (cond (nat_le (length q.1) 160) None (Some (plain 24 (p + (3 + length q.0))))))
    (Some (plain 25 p)))
    (Some (plain 23 p))

-- The first refusal of two.
abbrev pub or_else : Option Refusal → Option Refusal → Option Refusal
or_else (Some r) more = Some r
or_else None more = more

-- Why the pairs qs may not stand at the place p, after the pairs ps: the first pair at fault decides.
abbrev pub refused_from : List Pair → ℕ → List Pair → Option Refusal
refused_from ps p [] = None
refused_from ps p (q ∷ qs) = or_else (wrong_pair ps p q) (refused_from (ps ++ q ∷ []) (after_pair p q) qs)

-- Why the pairs may not be written as a record at the place p.
abbrev pub refused_pairs : ℕ → List Pair → Option Refusal
refused_pairs p qs = refused_from [] p qs

-- A refusal, or else the number.
abbrev pub verdict : Option Refusal → ℕ → Result ℕ Refusal
verdict None n = Ok n
verdict (Some r) n = Err r

-- The refusal that writing answered, if it did.
abbrev pub refusal_in : {A : Type 0} → Result A (Failure Fault) → Option Refusal
refusal_in (Ok x) = None
refusal_in (Err (Refused f)) = Some (refusal_of f)
refusal_in (Err NoMemory) = None

-- Memory is refused only where the room that there was is too small.
abbrev pub RefusedRoom : {A : Type 0} → Result A (Failure Fault) → ℕ → ℕ → Type 0
RefusedRoom (Ok x) had needed = Unit {0}
RefusedRoom (Err (Refused f)) had needed = Unit {0}
RefusedRoom (Err NoMemory) had needed = had < needed
