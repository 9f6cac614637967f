-- Where the holes of a template end.
use Rattle.std.specs.Prelude.{ℕ, List, take}
use Rattle.template.specs.declared.ends.Ends.{Ends}

-- the places that are noted
abbrev pub places_of : Ends → List ℕ
places_of e = take e.len e.places
