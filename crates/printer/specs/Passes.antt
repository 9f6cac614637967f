-- The two passes of a print, piece by piece: the first measures the text, the second lays it into the output.
use Rattle.std.specs.Prelude.{◌≡◌, ℕ, zero, suc, ◌+◌, Bool, true, false, List, [], ◌∷◌, ◌++◌, length, Ok, Err, Result, nat_le, nat_lt, slice_index}
use Rattle.host.specs.Meaning.{Meaning, Brackets}
use Rattle.fault.specs.Refusal.{Refusal, report, of_template}
use Rattle.template.specs.Lexing.{Lexed, byte, hole, end, fault, lexed_from}
use Rattle.template.specs.Judging.{crossing, contexts_in, decide, verdict, accepted}
use Rattle.printer.specs.Printing.{turned, in_room, after, printed}

abbrev pub and_then : {A B : Type 0} → Result A Refusal → (A → Result B Refusal) → Result B Refusal
and_then (Ok x) f = f x
and_then (Err r) f = Err r

-- the value of hole k from its byte i on, as its body spells it
abbrev pub spelt_out : Meaning → ℕ → ℕ → ℕ → List ℕ → Result (List ℕ) Refusal
spelt_out m c k i [] = Ok []
spelt_out m c k i (b ∷ bs) = decide (m.spelling c b) (Err (turned k i)) (λ s. after (λ t. s ++ t) (spelt_out m c k (i + 1) bs))

-- a piece that cannot be printed, as a check tells it
abbrev pub flawed : ℕ → ℕ → Refusal
flawed n p = of_template (report n p)

-- the values, the pieces that are left, the number of the next hole and the context
abbrev pub prints : Meaning → (ℕ → List ℕ) → Lexed → ℕ → ℕ → Result (List ℕ) Refusal
prints m v (byte p b rest) k c = decide (m.step c b) (Err (flawed 6 p)) (λ s. after (λ t. b ∷ t) (prints m v rest k s.0))
prints m v (hole p n rest) k c =
    decide (m.recipe c) (Err (flawed 7 p)) (λ r. decide (crossing m c) (Err (flawed 7 p)) (λ x. and_then (spelt_out m r.body k 0 (v k)) (λ w. after (λ t. r.opener ++ (w ++ (r.closer ++ t))) (prints m v rest (k + 1) x.1))))
prints m v (end p) k c = Ok []
prints m v (fault r) k c = Err (of_template r)

-- the text that was measured, if there is room for it
abbrev pub fitting : ℕ → Result (List ℕ) Refusal → Result (List ℕ) Refusal
fitting room (Ok w) = in_room (nat_le (length w) room) w
fitting room (Err r) = Err r

abbrev pub walked_by : Bool → Meaning → (ℕ → List ℕ) → List ℕ → ℕ → Result (List ℕ) Refusal
walked_by true m v t room = Err (flawed 1 3584)
walked_by false m v t room = fitting room (prints m v (lexed_from t 0) 0 0)

-- both passes over a template, short enough or not
abbrev pub walked : Meaning → (ℕ → List ℕ) → List ℕ → ℕ → Result (List ℕ) Refusal
walked m v t room = walked_by (nat_lt 3584 (length t)) m v t room

-- Under a host that accepts the template they come to what is printed.
abbrev pub WalksAsPrinted : Meaning → (ℕ → List ℕ) → List ℕ → Type 0
WalksAsPrinted m v t = (n : ℕ) (bodies : List ℕ) → verdict m t ≡ accepted n bodies → (room : ℕ) → walked m v t room ≡ printed m v t room

-- The pieces that are left by the contexts that the holes stand in, which a survey has noted: a literal stands for itself.
abbrev pub sets_out : Meaning → (ℕ → ℕ) → (ℕ → List ℕ) → Lexed → ℕ → Result (List ℕ) Refusal
sets_out m cs v (byte p b rest) k = after (λ t. b ∷ t) (sets_out m cs v rest k)
sets_out m cs v (hole p n rest) k =
    decide (m.recipe (cs k)) (Err (flawed 7 p)) (λ r. and_then (spelt_out m r.body k 0 (v k)) (λ w. after (λ t. r.opener ++ (w ++ (r.closer ++ t))) (sets_out m cs v rest (k + 1))))
sets_out m cs v (end p) k = Ok []
sets_out m cs v (fault r) k = Err (of_template r)

abbrev pub set_out_by : Bool → Meaning → (ℕ → ℕ) → (ℕ → List ℕ) → List ℕ → ℕ → Result (List ℕ) Refusal
set_out_by true m cs v t room = Err (flawed 1 3584)
set_out_by false m cs v t room = fitting room (sets_out m cs v (lexed_from t 0) 0)

-- both passes over a template by the contexts of its holes, short enough or not
abbrev pub set_out : Meaning → List ℕ → (ℕ → List ℕ) → List ℕ → ℕ → Result (List ℕ) Refusal
set_out m cs v t room = set_out_by (nat_lt 3584 (length t)) m (slice_index cs) v t room

-- Under a host that accepts the template, by the contexts that its holes do stand in, they come to what is printed.
abbrev pub SetOutAsPrinted : Meaning → List ℕ → (ℕ → List ℕ) → List ℕ → Type 0
SetOutAsPrinted m cs v t = (n : ℕ) (bodies : List ℕ) → verdict m t ≡ accepted n bodies → cs ≡ contexts_in m (lexed_from t 0) 0 → (room : ℕ) → set_out m cs v t room ≡ printed m v t room

-- bytes laid over others from a place on, as many as there are places for
abbrev pub overlaid : List ℕ → ℕ → List ℕ → List ℕ
overlaid [] at w = []
overlaid (b ∷ bs) (suc at) w = b ∷ overlaid bs at w
overlaid (b ∷ bs) zero [] = b ∷ bs
overlaid (b ∷ bs) zero (x ∷ xs) = x ∷ overlaid bs zero xs

-- a piece that is laid over an output from a place on: where it ends, and the output with it
abbrev pub onward : ℕ → List ℕ → Result (List ℕ) Refusal → Result (ℕ × List ℕ) Refusal
onward at out x = after (λ w. (at + length w, overlaid out at w)) x

-- a value between its opener and its closer
abbrev pub framed : Brackets → Result (List ℕ) Refusal → Result (List ℕ) Refusal
framed b x = after (λ w. b.opener ++ (w ++ b.closer)) x
