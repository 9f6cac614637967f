-- What a refusal says. Every contract speaks of refusals through `refusal_of` and `flaw_of`.
use Rattle.std.specs.Prelude.{ℕ, Some, None, Ok, Err, Option, Result}
use Rattle.fault.specs.declared.flaw.Flaw.{Flaw}
use Rattle.fault.specs.declared.flaw.Flaw.TheVariants.{TooLong, StrayAt, BadName, TooManyHoles, LiteralRefused, HoleRefused, EndRefused}
use Rattle.fault.specs.declared.fault.Fault.{Fault}
use Rattle.fault.specs.declared.fault.Fault.TheVariants.{Template, Unfit, NoSuchHole, NotOwed, ValueTooLong, ByteTurnedAway, AlreadyOwed, StillOwed, StoredByteTurnedAway, OutputTooShort, TextTooLong, TextRefused, FieldCutShort, UnknownTag, TagOutOfTurn, BadRecordName, RecordValueTooLong, TooManyNames, NameTwice, EndWithLength, NameMissing}

-- What is wrong with a template: the refusal's number and its place.
pub record Report : Type 0 where
  pub number : ℕ
  pub place : ℕ

-- A refusal: its number, the hole that it names, if any, its place, 0 where it names none, and what it carries of another refusal, if anything.
pub record Refusal : Type 0 where
  pub number : ℕ
  pub hole : Option ℕ
  pub place : ℕ
  pub carried : Option Report

abbrev pub report : ℕ → ℕ → Report
report n p = record { number = n; place = p }

abbrev pub flaw_of : Flaw → Report
flaw_of TooLong = report 1 3584
flaw_of (StrayAt p) = report 2 p
flaw_of (BadName p) = report 3 p
flaw_of (TooManyHoles p) = report 5 p
flaw_of (LiteralRefused p) = report 6 p
flaw_of (HoleRefused p) = report 7 p
flaw_of (EndRefused p) = report 8 p

-- a refusal that names no hole and carries no other
abbrev pub plain : ℕ → ℕ → Refusal
plain n p = record { number = n; hole = None; place = p; carried = None }

abbrev pub of_template : Report → Refusal
of_template f = plain f.number f.place

-- a refusal that names a hole
abbrev pub of_hole : ℕ → ℕ → ℕ → Refusal
of_hole n k p = record { number = n; hole = Some k; place = p; carried = None }

-- The host of a sheet refuses the template: what it says of the template is carried whole.
abbrev pub unfit : Report → Refusal
unfit f = record { number = 9; hole = None; place = 0; carried = Some f }

abbrev pub refusal_of : Fault → Refusal
refusal_of (Template f) = of_template (flaw_of f)
refusal_of (Unfit f) = unfit (flaw_of f)
refusal_of (NoSuchHole k) = of_hole 10 k 0
refusal_of (NotOwed k) = of_hole 11 k 0
refusal_of (ValueTooLong k) = of_hole 12 k 160
refusal_of (ByteTurnedAway k p) = of_hole 13 k p
refusal_of (AlreadyOwed k) = of_hole 14 k 0
refusal_of (StillOwed k) = of_hole 15 k 0
refusal_of (StoredByteTurnedAway k p) = of_hole 16 k p
refusal_of (OutputTooShort needed) = plain 17 needed
refusal_of TextTooLong = plain 18 0
refusal_of (TextRefused p) = plain 19 p
refusal_of (FieldCutShort p) = plain 20 p
refusal_of (UnknownTag p) = plain 21 p
refusal_of (TagOutOfTurn p) = plain 22 p
refusal_of (BadRecordName p) = plain 23 p
refusal_of (RecordValueTooLong p) = plain 24 p
refusal_of (TooManyNames p) = plain 25 p
refusal_of (NameTwice p) = plain 26 p
refusal_of (EndWithLength p) = plain 27 p
refusal_of (NameMissing k p) = of_hole 30 k p

-- An answer, with what a refusal says in place of the refusal.
abbrev pub told_flaw : {A : Type 0} → Result A Flaw → Result A Report
told_flaw (Ok x) = Ok x
told_flaw (Err f) = Err (flaw_of f)

abbrev pub told : {A : Type 0} → Result A Fault → Result A Refusal
told (Ok x) = Ok x
told (Err f) = Err (refusal_of f)
