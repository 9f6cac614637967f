-- What an outline says, or why there is none.
use Rattle.std.specs.Prelude.{◌≡◌, Ok, Err, Result}
use Rattle.fault.specs.declared.flaw.Flaw.{Flaw}
use Rattle.fault.specs.declared.failure.Failure.{Failure}
use Rattle.fault.specs.declared.failure.Failure.TheVariants.{Refused, NoMemory}
use Rattle.fault.specs.Refusal.{flaw_of}
use Rattle.template.specs.Judging.{Verdict, refused, accepted}

-- The host accepts the template.
abbrev pub Takes : Verdict → Type 0
Takes (refused r) = ⊥
Takes (accepted n bodies) = Unit {0}

-- The host takes the template and the answer has P, or it does not and the flaw is the verdict's; memory runs out only over a template that it takes.
abbrev pub Tells : {A : Type 0} → Result A (Failure Flaw) → Verdict → (A → Type 0) → Type 0
Tells (Ok x) v P = Takes v × P x
Tells (Err (Refused f)) v P = v ≡ refused (flaw_of f)
Tells (Err NoMemory) v P = Takes v
