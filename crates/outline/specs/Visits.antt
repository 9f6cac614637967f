-- What a run meets of a template: each piece with its place and the context that it is read in.
use Rattle.std.specs.Prelude.{◌≡◌, ℕ, List, [], ◌∷◌, ◌++◌, map, length, Ok, Err, Result}
use Rattle.std.specs.List.{flat_map}
use Rattle.host.specs.Meaning.{Meaning}
use Rattle.host.specs.Run.{start, run}
use Rattle.fault.specs.Refusal.{Report, report}
use Rattle.template.specs.declared.item.Item.{Item}
use Rattle.template.specs.declared.item.Item.TheVariants.{Literal, Hole}
use Rattle.template.specs.Notation.{Piece, itself, escape, named, stands_for, written, item}
use Rattle.template.specs.Law.{Written}
use Rattle.template.specs.Judging.{crossing, decide}
use Rattle.outline.specs.declared.visit.Visit.{Visit}

-- A literal byte, or a hole with its name and its place.
pub data Met : Type 0 where
  literal : ℕ → Met
  gap : List ℕ → ℕ → Met

pub record Sight : Type 0 where
  pub place : ℕ
  pub context : ℕ
  pub met : Met

abbrev pub sight : ℕ → ℕ → Met → Sight
sight p c x = record { place = p; context = c; met = x }

-- What is met of a piece at a place.
abbrev pub met_at : ℕ → Piece → Met
met_at p (itself b) = literal b
met_at p (escape e) = literal (stands_for e)
met_at p (named n) = gap n p

-- The pieces that stand after others, as far as the run goes: each at the place where the written form of those before it ends, in the context that their run has come to.
abbrev pub sights : Meaning → List Piece → List Piece → List Sight
sights m before [] = []
sights m before (pc ∷ ps) =
    let p = length (flat_map written before) in
    decide (run m (map item before) 0 start) [] (λ s. sight p s.context (met_at p pc) ∷ sights m (before ++ (pc ∷ [])) ps)

-- What the code's items and visits say.
abbrev pub met_of : Item → Met
met_of (Literal b) = literal b
met_of (Hole h) = gap h.name.now h.place

abbrev pub sight_of : Visit → Sight
sight_of v = sight v.place v.context (met_of v.item)

-- The visits are those of the pieces that the template is the written form of.
abbrev pub Visited : Meaning → List ℕ → List Visit → Type 0
Visited m t vs = (ps : List Piece) → Written t ps → map sight_of vs ≡ sights m [] ps

-- The context after an item, or the report of its refusal.
abbrev pub passing : Meaning → ℕ → Item → ℕ → Result ℕ Report
passing m c (Literal b) p = decide (m.step c b) (Err (report 6 p)) (λ s. Ok s.0)
passing m c (Hole h) p = decide (crossing m c) (Err (report 7 p)) (λ x. Ok x.1)
