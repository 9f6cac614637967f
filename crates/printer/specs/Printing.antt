-- What a print writes, or why it does not, and what its text reads as.
use Rattle.std.specs.Prelude.{◌≡◌, ℕ, ◌+◌, Bool, true, false, cond, List, [], ◌∷◌, ◌++◌, length, drop, Some, None, Ok, Err, Option, Result, nat_le, nat_lt}
use Rattle.std.specs.List.{prefix_len}
use Rattle.host.specs.Meaning.{Meaning}
use Rattle.host.specs.Run.{Token, start, plan, reading, text, fill}
use Rattle.host.specs.Promise.{holes, all_marks, numbers}
use Rattle.fault.specs.Refusal.{Refusal, plain, of_hole, unfit}
use Rattle.template.specs.Judging.{Verdict, refused, accepted, verdict}
use Rattle.template.specs.Items.{items}
use Rattle.printer.specs.Slate.{spells}

-- The first byte that a body turns away: its hole and its place in the hole's value. k is the number of the first hole; where every byte is
-- spelled, it is the number past the last.
abbrev pub first_turned : Meaning → (ℕ → List ℕ) → ℕ → List ℕ → ℕ × ℕ
first_turned m v k [] = (k, 0)
first_turned m v k (c ∷ cs) =
    let i = prefix_len (spells m c) (v k) in cond (nat_lt i (length (v k))) (k, i) (first_turned m v (k + 1) cs)

abbrev pub turned : ℕ → ℕ → Refusal
turned k i = of_hole 16 k i

-- 17: the output is too short; the place is the length needed.
abbrev pub no_room : ℕ → Refusal
no_room n = plain 17 n

abbrev pub in_room : Bool → List ℕ → Result (List ℕ) Refusal
in_room true w = Ok w
in_room false w = Err (no_room (length w))

-- The text, if there is one and it fits; where there is none, 16 with the first byte that is turned away.
abbrev pub printed_as : Option (List ℕ) → ℕ × ℕ → ℕ → Result (List ℕ) Refusal
printed_as (Some w) first room = in_room (nat_le (length w) room) w
printed_as None first room = Err (turned first.0 first.1)

-- 9 where the host refuses the template.
abbrev pub printed_by : Verdict → Meaning → (ℕ → List ℕ) → List ℕ → ℕ → Result (List ℕ) Refusal
printed_by (refused r) m v t room = Err (unfit r)
printed_by (accepted n bodies) m v t room = printed_as (text m v (items t) 0 start) (first_turned m v 0 bodies) room

-- What a print of the template t with the values v into an output of `room` bytes writes.
abbrev pub printed : Meaning → (ℕ → List ℕ) → List ℕ → ℕ → Result (List ℕ) Refusal
printed m v t room = printed_by (verdict m t) m v t room

abbrev pub after : {A B : Type 0} → (A → B) → Result A Refusal → Result B Refusal
after f (Ok x) = Ok (f x)
after f (Err r) = Err r

-- The length of what is written.
abbrev pub weight : Result (List ℕ) Refusal → Result ℕ Refusal
weight x = after length x

-- What an output holds after a print: the text from its start, and the bytes after it as they were; or all as it was.
abbrev pub output : List ℕ → Result (List ℕ) Refusal → List ℕ
output old (Ok w) = w ++ drop (length w) old
output old (Err r) = old

-- A text reads as the template's plan with each hole's mark replaced by its value; the plan has the mark of each hole once, in order.
pub record ReadsBack (m : Meaning) (v : ℕ → List ℕ) (t w : List ℕ) : Type 0 where
  pub tokens : List Token
  pub planned : plan m (items t) ≡ Some tokens
  pub marked : all_marks tokens ≡ numbers 0 (holes (items t))
  pub reads : reading m w ≡ Some (fill v tokens)
