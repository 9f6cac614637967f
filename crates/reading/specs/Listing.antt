-- The listing of a reading. Assumes nothing.
use Rattle.std.specs.Prelude.{◌≡◌, ℕ, suc, ◌/◌, ◌%◌, ◌≤◌, cond, List, [], ◌∷◌, ◌++◌, length, take, drop, Some, None, Ok, Err, Option, Result, nat_lt}
use Rattle.fault.specs.Refusal.{Refusal, plain}
use Rattle.host.specs.Meaning.{Meaning}
use Rattle.host.specs.Run.{Symbol, byte, mark, Token, State, start, read_byte, read_bytes, reading}

-- The bytes of a token; a reading has no marks.
abbrev pub bytes_of : List Symbol → List ℕ
bytes_of [] = []
bytes_of (byte b ∷ xs) = b ∷ bytes_of xs
bytes_of (mark k ∷ xs) = bytes_of xs

-- A tag, the length with its high byte first, and the bytes.
abbrev pub field : ℕ → List ℕ → List ℕ
field tag bytes = tag ∷ length bytes / 256 ∷ length bytes % 256 ∷ bytes

-- A field for each token: its kind as the tag, then its bytes.
abbrev pub fields : List Token → List ℕ
fields [] = []
fields (t ∷ ts) = field t.kind (bytes_of t.value) ++ fields ts

-- How many bytes of a text are read before a byte, or else the end, is refused: the place of the refusal.
abbrev pub by_step : Option State → (State → ℕ) → ℕ
by_step None more = 0
by_step (Some t) more = suc (more t)

abbrev pub read_before : Meaning → List ℕ → State → ℕ
read_before m [] s = 0
read_before m (b ∷ bs) s = by_step (read_byte m b s) (read_before m bs)

-- The fields of what a text reads as, in an output of n bytes; or a refusal's number and place.
abbrev pub by_reading : Option (List Token) → ℕ → ℕ → Result (List ℕ) Refusal
by_reading None p n = Err (plain 19 p)
by_reading (Some ts) p n = cond (nat_lt n (length (fields ts))) (Err (plain 17 (length (fields ts)))) (Ok (fields ts))

abbrev pub listing : Meaning → List ℕ → ℕ → Result (List ℕ) Refusal
listing m bs n = cond (nat_lt 65534 (length bs)) (Err (plain 18 0)) (by_reading (reading m bs) (read_before m bs start) n)

-- What is answered: the length of the fields, or the refusal.
abbrev pub answer_of : Result (List ℕ) Refusal → Result ℕ Refusal
answer_of (Ok fs) = Ok (length fs)
answer_of (Err f) = Err f

-- What the output holds then: the fields from its start and its own bytes after them; or as it was.
abbrev pub output : Result (List ℕ) Refusal → List ℕ → List ℕ
output (Ok fs) out = fs ++ drop (length fs) out
output (Err f) out = out

-- What stands next cannot be read: a byte that the host refuses, or the end.
abbrev pub Stuck : Meaning → State → List ℕ → Type 0
Stuck m s [] = m.end s.context ≡ None
Stuck m s (b ∷ bs) = m.step s.context b ≡ None

-- A text is read up to a place, from a state on, and what stands there cannot be read.
pub record RefusedAt (m : Meaning) (s : State) (bs : List ℕ) (p : ℕ) : Type 0 where
  pub within : p ≤ length bs
  pub reached : State
  pub before : read_bytes m (take p bs) s ≡ Some reached
  pub here : Stuck m reached (drop p bs)

-- A text without a reading is refused at the place that is told.
abbrev pub RefusedRightly : Meaning → List ℕ → Type 0
RefusedRightly m bs = reading m bs ≡ None → RefusedAt m start bs (read_before m bs start)
