-- What the verdict says of the holes of a template: how many its pieces have, and the bodies that their run meets.
use Rattle.std.proofs.Common.{◌≡◌, ℕ, List, [], ◌∷◌, map, refl, ap, ◌∙◌, arith}
use Rattle.host.specs.Meaning.{Meaning}
use Rattle.host.specs.Run.{start}
use Rattle.host.specs.Promise.{holes, bodies}
use Rattle.template.specs.Notation.{Piece, itself, escape, named, item}
use Rattle.template.specs.Law.{holes_of, TellsHoles}
use Rattle.template.proofs.Accepted.{accepted_is, items_of_pieces}

pub holes_written : (ps : List Piece) → holes (map item ps) ≡ holes_of ps
holes_written [] = refl
holes_written (itself b ∷ ps) = holes_written ps
holes_written (escape e ∷ ps) = holes_written ps
holes_written (named n ∷ ps) = omega (arith, holes_written ps)

pub tells_holes : (m : Meaning) (t : List ℕ) → TellsHoles m t
tells_holes m t n bs e ps w =
    let a = accepted_is m t n bs e in
    let is = (items_of_pieces t ps w).0 in
    (a.count ∙ ap holes is ∙ holes_written ps, a.bodied ∙ ap (λ js. bodies m js 0 start) is)
