-- How refusals are written: the number, the hole if one is named, the place and a sentence.
use Rattle.std.specs.Prelude.{ℕ, List, ◌++◌, Some, None, codes, decimal, Option}
use Rattle.fault.specs.declared.flaw.Flaw.{Flaw}
use Rattle.fault.specs.declared.flaw.Flaw.TheVariants.{TooLong, StrayAt, BadName, TooManyHoles, LiteralRefused, HoleRefused, EndRefused}
use Rattle.fault.specs.declared.fault.Fault.{Fault}
use Rattle.fault.specs.declared.fault.Fault.TheVariants.{Template, Unfit, NoSuchHole, NotOwed, ValueTooLong, ByteTurnedAway, AlreadyOwed, StillOwed, StoredByteTurnedAway, OutputTooShort, TextTooLong, TextRefused, FieldCutShort, UnknownTag, TagOutOfTurn, BadRecordName, RecordValueTooLong, TooManyNames, NameTwice, EndWithLength, NameMissing}
use Rattle.fault.specs.Refusal.{Report, refusal_of}

abbrev pub flaw_words_lem : Flaw → List ℕ
flaw_words_lem TooLong = codes "the template has more than 3584 bytes"
flaw_words_lem (StrayAt p) = codes "after @ comes one of @ n r t {"
flaw_words_lem (BadName p) = codes "a hole's name is 1 to 16 of a-z 0-9 _, a letter first, then }"
flaw_words_lem (TooManyHoles p) = codes "the template has more than 64 holes"
flaw_words_lem (LiteralRefused p) = codes "the host does not take this byte here"
flaw_words_lem (HoleRefused p) = codes "the host takes no hole here"
flaw_words_lem (EndRefused p) = codes "the host does not let the text end here"

abbrev pub fault_words_lem : Fault → List ℕ
fault_words_lem (Template f) = flaw_words_lem f
fault_words_lem (Unfit f) = codes "the sheet's host refuses the template"
fault_words_lem (NoSuchHole k) = codes "the template has no such hole"
fault_words_lem (NotOwed k) = codes "the hole has a value already"
fault_words_lem (ValueTooLong k) = codes "a value has at most 160 bytes"
fault_words_lem (ByteTurnedAway k p) = codes "this byte of the value cannot be written in the hole"
fault_words_lem (AlreadyOwed k) = codes "the hole has no value to release"
fault_words_lem (StillOwed k) = codes "this hole still has no value"
fault_words_lem (StoredByteTurnedAway k p) = codes "this byte in the sheet cannot be written in the hole"
fault_words_lem (OutputTooShort needed) = codes "the output is too short; the place is the length needed"
fault_words_lem TextTooLong = codes "the text has more than 65534 bytes"
fault_words_lem (TextRefused p) = codes "the host does not take this byte, or the end, here"
fault_words_lem (FieldCutShort p) = codes "the input ends before the record does"
fault_words_lem (UnknownTag p) = codes "the tag of a field is 1, 2 or 3"
fault_words_lem (TagOutOfTurn p) = codes "a name comes before its value, and a value after its name"
fault_words_lem (BadRecordName p) = codes "a name is 1 to 16 of a-z 0-9 _, a letter first"
fault_words_lem (RecordValueTooLong p) = codes "a value has at most 160 bytes"
fault_words_lem (TooManyNames p) = codes "a record has at most 64 names"
fault_words_lem (NameTwice p) = codes "the record has this name already"
fault_words_lem (EndWithLength p) = codes "the end of a record has length 0"
fault_words_lem (NameMissing k p) = codes "the record has no value of this hole's name"

-- The line of a refusal that names no hole and carries none: the number, the place and a sentence.
abbrev pub fault_line : Fault → List ℕ
fault_line f = decimal (refusal_of f).number ++ (codes " place " ++ (decimal (refusal_of f).place ++ (codes ": " ++ fault_words_lem f)))

-- The line of one that names a hole, after the number.
abbrev pub hole_line : ℕ → Fault → List ℕ
hole_line k f = decimal (refusal_of f).number ++ (codes " hole " ++ (decimal k ++ (codes " place " ++ (decimal (refusal_of f).place ++ (codes ": " ++ fault_words_lem f)))))

-- What a refusal carries of another.
abbrev pub carried_words : Report → List ℕ
carried_words r = codes " (carries " ++ (decimal r.number ++ (codes " place " ++ (decimal r.place ++ codes ")")))

-- The line by the hole that is named and by what is carried. No refusal has both.
abbrev pub line_by : Option ℕ → Option Report → Fault → List ℕ
line_by None None f = fault_line f
line_by None (Some r) f = fault_line f ++ carried_words r
line_by (Some k) c f = hole_line k f

-- How a refusal is written: with the hole if it names one, and with what it carries if it carries another.
abbrev pub refusal_line : Fault → List ℕ
refusal_line f = line_by (refusal_of f).hole (refusal_of f).carried f
