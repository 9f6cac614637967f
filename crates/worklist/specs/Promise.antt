-- The whole promise: what going down a work list keeps, for every host with the laws, every template that it accepts, and every list.
use Rattle.std.specs.Prelude.{◌≡◌, ℕ, ◌<◌, ◌≤◌, Bool, true, false, cond, not, List, [], ◌∷◌, ◌++◌, length, get_or, take, drop, Some, None, Ok, Err, Option, Result, ◌==◌, ◌≢◌, nat_lt, slice_index, slice_index_or}
use Rattle.host.specs.Meaning.{Meaning, Conveys, NeverConveyed}
use Rattle.host.specs.Run.{Token, start, plan, reading, text, fill}
use Rattle.host.specs.Promise.{holes, bodies, body_of, all_marks, numbers, DifferOnly}
use Rattle.fault.specs.Refusal.{Refusal, of_hole}
use Rattle.template.specs.Items.{items}
use Rattle.printer.specs.declared.row.Row.{Row}
use Rattle.printer.specs.Held.{rows_of}
use Rattle.printer.specs.Printing.{printed, no_room}
use Rattle.printer.specs.Rows.{value_at}
use Rattle.printer.specs.Slate.{Slate, fresh, owed_at, values_on}
use Rattle.worklist.specs.Lines.{Order, bind, release, owed, Reply, taken, refused, owes_now, answers, final}

-- The slate of a template after a list, what it answers to the list, and the text with its values.
abbrev pub slate_after : Meaning → List ℕ → List Order → Slate
slate_after m t os = final m (bodies m (items t) 0 start) (fresh (holes (items t))) os

abbrev pub slate_answers : Meaning → List ℕ → List Order → List Reply
slate_answers m t os = answers m (bodies m (items t) 0 start) (fresh (holes (items t))) os

abbrev pub Text : Meaning → List ℕ → Slate → List ℕ → Type 0
Text m t ss w = text m (values_on ss) (items t) 0 start ≡ Some w

-- Some hole is owed.
abbrev pub Owes : Slate → Type 0
Owes ss = (k : ℕ) × (k < length ss) × (owed_at ss k ≡ true)

-- Hole k is owed, and none before it is.
pub record LowestOwed (ss : Slate) (k : ℕ) : Type 0 where
  pub is_owed : owed_at ss k ≡ true
  pub none_before : (j : ℕ) → j < k → owed_at ss j ≡ false

abbrev pub BothWays : Type 0 → Type 0 → Type 0
BothWays P Q = (P → Q) × (Q → P)

abbrev pub IsRefused : {A : Type 0} → Result A Refusal → Type 0
IsRefused (Ok x) = ⊥
IsRefused (Err r) = Unit {0}

-- A print of the text w into an output: refused with the length needed where the output is shorter, and else the text is written.
abbrev pub printed_exactly : List ℕ → ℕ → Result (List ℕ) Refusal
printed_exactly w room = cond (nat_lt room (length w)) (Err (no_room (length w))) (Ok w)

abbrev pub print_answer : List ℕ → ℕ → Result ℕ Refusal
print_answer w room = cond (nat_lt room (length w)) (Err (no_room (length w))) (Ok (length w))

abbrev pub print_output : List ℕ → List ℕ → List ℕ
print_output w old = cond (nat_lt (length old) (length w)) old (w ++ drop (length w) old)

-- Two lists that differ only in values sent to hole k.
pub data AlikeBut (k : ℕ) : List Order → List Order → Type 0 where
  done : AlikeBut k [] []
  same : {os ps : List Order} (o : Order) → AlikeBut k os ps → AlikeBut k (o ∷ os) (o ∷ ps)
  sent : {os ps : List Order} (v w : List ℕ) → AlikeBut k os ps → AlikeBut k (bind k v ∷ os) (bind k w ∷ ps)

-- Whether a line binds or releases a hole other than k.
abbrev pub on_other : ℕ → Order → Bool
on_other k (bind h v) = not (h == k)
on_other k (release h) = not (h == k)
on_other k owed = false

-- Two lists have come to prints: nothing is owed, and w and x are the texts.
pub record BothPrint (m : Meaning) (t : List ℕ) (os ps : List Order) (w x : List ℕ) : Type 0 where
  pub first_filled : Owes (slate_after m t os) → ⊥
  pub second_filled : Owes (slate_after m t ps) → ⊥
  pub first_text : Text m t (slate_after m t os) w
  pub second_text : Text m t (slate_after m t ps) x

-- The two texts read to equally many tokens of the same kinds, in order, equal in value wherever the plan lacks k.
pub record ReadAlike (m : Meaning) (t : List ℕ) (k : ℕ) (w x : List ℕ) : Type 0 where
  pub tokens : List Token
  pub planned : plan m (items t) ≡ Some tokens
  pub first : List Token
  pub second : List Token
  pub first_reads : reading m w ≡ Some first
  pub second_reads : reading m x ≡ Some second
  pub alike : DifferOnly k tokens first second

-- Line i binds a value of at most 160 bytes to a hole that is owed when its turn comes.
pub record BindOfOwed (m : Meaning) (t : List ℕ) (os : List Order) (i h : ℕ) (v : List ℕ) : Type 0 where
  pub within : i < length os
  pub line : get_or os i owed ≡ bind h v
  pub hole_owed : owed_at (slate_after m t (take i os)) h ≡ true
  pub short : length v ≤ 160

-- Some byte of a value is conveyed in the body of its hole by no string of one to six bytes.
abbrev pub Unconveyable : Meaning → List ℕ → ℕ → List ℕ → Type 0
Unconveyable m t h v = (j : ℕ) × (j < length v) × NeverConveyed m (body_of m (items t) h) (slice_index v j)

-- Some string of one to six bytes conveys a byte in a body.
abbrev pub Conveyable : Meaning → ℕ → ℕ → Type 0
Conveyable m c b = (s : List ℕ) × (1 ≤ length s) × (length s ≤ 6) × Conveys m c b s

-- The refusal of a bind whose value has a byte that is conveyed by none: 13, with its hole, at the first such byte.
pub record FirstUnconveyable (m : Meaning) (t : List ℕ) (h : ℕ) (v : List ℕ) (r : Refusal) : Type 0 where
  pub place : ℕ
  pub is : r ≡ of_hole 13 h place
  pub place_within : place < length v
  pub never : NeverConveyed m (body_of m (items t) h) (slice_index v place)
  pub before : (j : ℕ) → j < place → Conveyable m (body_of m (items t) h) (slice_index v j)

abbrev pub RefusedLine : Reply → Type 0
RefusedLine taken = ⊥
RefusedLine (refused r) = Unit {0}
RefusedLine (owes_now n low) = ⊥

-- What a bind is told on a slate, beside what its bytes decide: 10 where there is no such hole, 11 where it is not owed, 12 where the value is
-- too long, and each of them nowhere else.
pub record BindTold (ss : Slate) (h : ℕ) (v : List ℕ) (r : Reply) : Type 0 where
  pub no_such_hole : BothWays (r ≡ refused (of_hole 10 h 0)) (length ss ≤ h)
  pub not_owed : BothWays (r ≡ refused (of_hole 11 h 0)) ((h < length ss) × (owed_at ss h ≡ false))
  pub too_long : BothWays (r ≡ refused (of_hole 12 h 160)) ((owed_at ss h ≡ true) × (160 < length v))

-- What a release is told: it is taken where the hole has a value, 10 where there is no such hole, and 14 where it is owed.
pub record ReleaseTold (ss : Slate) (h : ℕ) (r : Reply) : Type 0 where
  pub taken_where : BothWays (r ≡ taken) ((h < length ss) × (owed_at ss h ≡ false))
  pub no_such_hole : BothWays (r ≡ refused (of_hole 10 h 0)) (length ss ≤ h)
  pub owed_already : BothWays (r ≡ refused (of_hole 14 h 0)) (owed_at ss h ≡ true)

-- Line i of a list binds v to hole h and is taken, and no line after it, up to line j, releases h.
pub record BoundAndLeft (os : List Order) (replies : List Reply) (i j h : ℕ) (v : List ℕ) : Type 0 where
  pub before : i < j
  pub within : j ≤ length os
  pub line : get_or os i owed ≡ bind h v
  pub was_taken : get_or replies i (owes_now 0 None) ≡ taken
  pub unreleased : (l : ℕ) → i < l → l < j → slice_index_or os l owed ≢ release h

-- The whole promise. The lines os have the answers `replies`; `rows` are those of the sheet after them; `finish` is what finish said, `print`
-- what the print after it said, None where there was none; and the output was `old` before the call and is `new` after it.
pub record Kept (m : Meaning) (t : List ℕ) (os : List Order) (replies : List Reply) (rows : List Row) (finish : Result ℕ Refusal) (print : Option (Result ℕ Refusal)) (old new : List ℕ) : Type 0 where
  -- every line has answered as the slate does, the whole refusal included
  pub answers_as_slate : replies ≡ slate_answers m t os
  -- the sheet holds the slate's values, and every other length and byte is 0
  pub sheet_holds_slate : rows ≡ rows_of (slate_after m t os)
  -- a bind is told 10, 11 and 12 exactly where they are due, and a release 10 and 14
  pub binds_told : (i h : ℕ) (v : List ℕ) → i < length os → slice_index_or os i owed ≡ bind h v → BindTold (slate_after m t (take i os)) h v (slice_index_or replies i taken)
  pub releases_told : (i h : ℕ) → i < length os → slice_index_or os i owed ≡ release h → ReleaseTold (slate_after m t (take i os)) h (slice_index_or replies i taken)
  -- a value that is taken stays on the slate until its hole is released
  pub values_stay : (i j h : ℕ) (v : List ℕ) → BoundAndLeft os replies i j h v → slice_index_or (slate_after m t (take j os)) h None ≡ Some v
  -- finish is refused exactly when a hole is owed on the slate
  pub finish_exact : BothWays (IsRefused finish) (Owes (slate_after m t os))
  -- then it is 15 and names the lowest such hole, and else it tells the count of holes
  pub finish_lowest : (r : Refusal) → finish ≡ Err r → (k : ℕ) × (r ≡ of_hole 15 k 0) × LowestOwed (slate_after m t os) k
  pub finish_count : (n : ℕ) → finish ≡ Ok n → n ≡ holes (items t)
  -- where none is owed there is a text, and every print from that sheet, into whatever output, is refused exactly when the output is shorter,
  -- and otherwise writes the text
  pub print_exact : (Owes (slate_after m t os) → ⊥) → (w : List ℕ) × Text m t (slate_after m t os) w × ((out : List ℕ) → printed m (value_at rows) t (length out) ≡ printed_exactly w (length out))
  -- the text reads under the host as the template's plan with each hole's mark replaced by its value
  pub reads_as_plan : (w : List ℕ) → Text m t (slate_after m t os) w → (p : List Token) × (plan m (items t) ≡ Some p) × (reading m w ≡ Some (fill (values_on (slate_after m t os)) p))
  -- and the plan has the mark of each hole once, in order
  pub plan_marks : (p : List Token) → plan m (items t) ≡ Some p → all_marks p ≡ numbers 0 (holes (items t))
  -- a list that differs from this one only in values sent to k: at every line that binds or releases another hole the two answers are equal,
  pub others_answer_alike : (k : ℕ) (ps : List Order) → AlikeBut k os ps → (i : ℕ) → i < length os → on_other k (slice_index_or os i owed) ≡ true → slice_index_or replies i taken ≡ slice_index_or (slate_answers m t ps) i taken
  -- every other hole has the same value at the end, or is owed after both,
  pub others_hold_alike : (k : ℕ) (ps : List Order) → AlikeBut k os ps → (j : ℕ) → (j ≢ k) → slice_index_or (slate_after m t os) j None ≡ slice_index_or (slate_after m t ps) j None
  -- and where both come to prints, the two texts read alike but for k
  pub others_read_alike : (k : ℕ) (ps : List Order) → AlikeBut k os ps → (w x : List ℕ) → BothPrint m t os ps w x → ReadAlike m t k w x
  -- a bind of at most 160 bytes to a hole that is owed is refused exactly when some byte of it is conveyed by no string of one to six bytes,
  pub refusal_exact : (i h : ℕ) (v : List ℕ) → BindOfOwed m t os i h v → BothWays (RefusedLine (slice_index_or replies i taken)) (Unconveyable m t h v)
  -- and then names the first such byte
  pub refusal_place : (i h : ℕ) (v : List ℕ) → BindOfOwed m t os i h v → (r : Refusal) → slice_index_or replies i taken ≡ refused r → FirstUnconveyable m t h v r
  -- the call's own print: none where a hole is owed, and the output is as it was;
  pub owed_unprinted : Owes (slate_after m t os) → (print ≡ None) × (new ≡ old)
  -- and else of the text
  pub filled_printed : (Owes (slate_after m t os) → ⊥) → (w : List ℕ) → Text m t (slate_after m t os) w → (print ≡ Some (print_answer w (length old))) × (new ≡ print_output w old)
