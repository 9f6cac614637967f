-- What reading a record at a place answers. Assumes nothing.
use Rattle.std.specs.Prelude.{◌≡◌, ℕ, zero, suc, ◌+◌, ◌*◌, ◌≤◌, Bool, cond, List, [], ◌∷◌, ◌++◌, length, take, drop, Some, None, Ok, Err, Option, Result, MatchResult, ◌==◌, nat_le, nat_lt}
use Rattle.std.specs.List.{list_any}
use Rattle.std.specs.Str.{bytes_eq}
use Rattle.fault.specs.declared.fault.Fault.{Fault}
use Rattle.fault.specs.declared.fault.Fault.TheVariants.{FieldCutShort, UnknownTag, TagOutOfTurn, BadRecordName, RecordValueTooLong, TooManyNames, NameTwice, EndWithLength}
use Rattle.record.specs.declared.field.Field.{Field}
use Rattle.record.specs.declared.field.Head.{Head}
use Rattle.record.specs.declared.field.Head.TheVariants.{Name, End}
use Rattle.fault.specs.Refusal.{Refusal, refusal_of}
use Rattle.record.specs.Names.{good_name}
use Rattle.record.specs.Tags.{byte_of, IsNoTag}
use Rattle.record.specs.Format.{Pair}

-- The field at the front of some bytes, by its tag and its length; none where it is cut short.
abbrev pub split : List ℕ → Option (ℕ × ℕ)
split [] = None
split (t ∷ []) = None
split (t ∷ h ∷ []) = None
split (t ∷ h ∷ l ∷ bs) = cond (nat_le (h * 256 + l) (length bs)) (Some (t, h * 256 + l)) None

-- The n bytes of that field.
abbrev pub body : ℕ → List ℕ → List ℕ
body n bs = take n (drop 3 bs)

-- The result is the field at the place p that was split off, or why it is none.
abbrev pub IsFieldOf : ℕ → Option (ℕ × ℕ) → Result Field Fault → Type 0
IsFieldOf p None r = r ≡ Err (FieldCutShort p)
IsFieldOf p (Some f) r = MatchResult r (λ field. (byte_of field.tag ≡ f.0) × (field.len ≡ f.1)) (λ fault. (fault ≡ UnknownTag p) × IsNoTag f.0)

-- A field at the place p, at the front of bs, where a name or the end is due.
abbrev pub judged_head : ℕ → List ℕ → Option (ℕ × ℕ) → Result Head Fault
judged_head p bs None = Err (FieldCutShort p)
judged_head p bs (Some f) =
    cond (f.0 == 1) (cond (good_name (body f.1 bs)) (Ok (Name f.1)) (Err (BadRecordName p)))
    (cond (f.0 == 2) (Err (TagOutOfTurn p))
    (cond (f.0 == 3) (cond (f.1 == 0) (Ok End) (Err (EndWithLength p))) (Err (UnknownTag p))))

abbrev pub head_of : ℕ → List ℕ → Result Head Fault
head_of p bs = judged_head p bs (split bs)

-- A field where a value is due.
abbrev pub judged_value : ℕ → Option (ℕ × ℕ) → Result ℕ Fault
judged_value p None = Err (FieldCutShort p)
judged_value p (Some f) =
    cond (f.0 == 2) (cond (nat_le f.1 160) (Ok f.1) (Err (RecordValueTooLong p)))
    (cond (f.0 == 1) (Err (TagOutOfTurn p)) (cond (f.0 == 3) (Err (TagOutOfTurn p)) (Err (UnknownTag p))))

abbrev pub value_of : ℕ → List ℕ → Result ℕ Fault
value_of p bs = judged_value p (split bs)

-- A head that is taken is whole in n bytes.
abbrev pub HeadLies : Head → ℕ → Type 0
HeadLies (Name k) n = 3 + k ≤ n
HeadLies End n = 3 ≤ n

-- What is read at a place: pairs with the place of the end's tag and the next place; none at the input's end; or a refusal's number and place.
pub data Answer : Type 0 where
  found : List Pair → ℕ → ℕ → Answer
  none : Answer
  refused : Refusal → Answer

abbrev pub faulty : Fault → Answer
faulty f = refused (refusal_of f)

-- Goes on after a name of some length; a record that ends here has the pairs ps.
abbrev pub on_head : Result Head Fault → List Pair → ℕ → (ℕ → Answer) → Answer
on_head (Ok (Name n)) ps p more = more n
on_head (Ok End) ps p more = found ps p (p + 3)
on_head (Err f) ps p more = faulty f

abbrev pub on_value : Result ℕ Fault → (ℕ → Answer) → Answer
on_value (Ok n) more = more n
on_value (Err f) more = faulty f

-- Whether some pair has the name.
abbrev pub named : List ℕ → List Pair → Bool
named n ps = list_any (λ p. bytes_eq p.0 n) ps

-- Goes on after a pair, with the pairs so far, the place and the bytes there: at the place p, at the front of bs, stood a name of n bytes and then a value of v.
abbrev pub with_value : (List Pair → ℕ → List ℕ → Answer) → List Pair → ℕ → List ℕ → ℕ → ℕ → Answer
with_value next ps p bs n v = next (ps ++ ((body n bs, body v (drop (3 + n) bs)) ∷ [])) (p + (3 + n) + (3 + v)) (drop (3 + v) (drop (3 + n) bs))

abbrev pub with_name : (List Pair → ℕ → List ℕ → Answer) → List Pair → ℕ → List ℕ → ℕ → Answer
with_name next ps p bs n =
    cond (named (body n bs) ps) (faulty (NameTwice p))
    (on_value (value_of (p + (3 + n)) (drop (3 + n) bs)) (with_value next ps p bs n))

-- Reads on in a record, at the place p, at the front of bs: after the pairs ps there is room for so many more.
abbrev pub reads : ℕ → List Pair → ℕ → List ℕ → Answer
reads zero ps p bs = on_head (head_of p bs) ps p (λ n. faulty (TooManyNames p))
reads (suc room) ps p bs = on_head (head_of p bs) ps p (with_name (reads room) ps p bs)

-- What reading at a place of the input answers.
abbrev pub read_at : List ℕ → ℕ → Answer
read_at input p =
    cond (nat_lt (length input) p) (faulty (FieldCutShort (length input)))
    (cond (p == length input) none (reads 64 [] p (drop p input)))
