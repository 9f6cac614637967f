-- The lines of a work list and the answers to them; what the slate answers to a list, and what it comes to.
use Rattle.std.specs.Prelude.{ℕ, List, [], ◌∷◌, Some, None, Option}
use Rattle.host.specs.Meaning.{Meaning}
use Rattle.fault.specs.Refusal.{Refusal}
use Rattle.printer.specs.Slate.{Slate, how_many, lowest, verdict_bind, verdict_release, bound, released}

-- A line binds a hole to a value, releases a hole, or asks what is owed.
pub data Order : Type 0 where
  bind : ℕ → List ℕ → Order
  release : ℕ → Order
  owed : Order

-- It is taken, or refused with the whole refusal; or it is told how many holes are owed, and the lowest.
pub data Reply : Type 0 where
  taken : Reply
  refused : Refusal → Reply
  owes_now : ℕ → Option ℕ → Reply

abbrev pub reply : Option Refusal → Reply
reply None = taken
reply (Some r) = refused r

-- `bodies` are those of the template's holes under the host.
module _ (m : Meaning) (bodies : List ℕ) where
  abbrev pub answer : Slate → Order → Reply
  answer ss (bind hole v) = reply (verdict_bind m bodies ss hole v)
  answer ss (release hole) = reply (verdict_release ss hole)
  answer ss owed = owes_now (how_many ss) (lowest ss)

  abbrev pub next : Slate → Order → Slate
  next ss (bind hole v) = bound m bodies ss hole v
  next ss (release hole) = released ss hole
  next ss owed = ss

  -- the answers to a list in order, and the slate at its end
  abbrev pub answers : Slate → List Order → List Reply
  answers ss [] = []
  answers ss (o ∷ os) = answer ss o ∷ answers (next ss o) os

  abbrev pub final : Slate → List Order → Slate
  final ss [] = ss
  final ss (o ∷ os) = final (next ss o) os
