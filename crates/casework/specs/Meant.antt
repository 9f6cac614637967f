-- What a refusal by its numbers says, and how it is written.
use Rattle.std.specs.Prelude.{ℕ, List, ◌++◌, codes, decimal, Some, None}
use Rattle.fault.specs.Refusal.{report, plain, of_hole}
use Rattle.fault.specs.Refusal as fault
use Rattle.casework.specs.declared.refusal.Refusal.{Refusal}
use Rattle.casework.specs.declared.refusal.Refusal.TheVariants.{OfHole, Carrying, Plain}

-- The number, the hole, the place and what is carried.
abbrev pub meant : Refusal → fault.Refusal
meant (OfHole n k p) = of_hole n k p
meant (Carrying n p m q) = record { number = n; hole = None; place = p; carried = Some (report m q) }
meant (Plain n p) = plain n p

abbrev pub refusal_text : Refusal → List ℕ
refusal_text (OfHole n k p) = decimal n ++ (codes " hole " ++ (decimal k ++ (codes " place " ++ decimal p)))
refusal_text (Carrying n p m q) = decimal n ++ (codes " place " ++ (decimal p ++ (codes ", carries " ++ (decimal m ++ (codes " place " ++ decimal q)))))
refusal_text (Plain n p) = decimal n ++ (codes " place " ++ decimal p)
