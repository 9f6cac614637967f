-- What the code's run has come to.
use Rattle.std.specs.Prelude.{◌≡◌, map, Some, None, Ok, Err, vec_items, Option, Result}
use Rattle.std.specs.Option.{option_map}
use Rattle.fault.specs.declared.flaw.Flaw.{Flaw}
use Rattle.fault.specs.declared.failure.Failure.{Failure}
use Rattle.fault.specs.declared.failure.Failure.TheVariants.{Refused, NoMemory}
use Rattle.host.specs.declared.effect.Refused.{Refused as Refusal}
use Rattle.host.specs.Run.{State}
use Rattle.outline.specs.declared.run.Run.{Run}
use Rattle.outline.specs.Tokens.{symbol_of, token_of}

abbrev pub state_of : Run → State
state_of r = record { context = r.context; closed = map token_of (vec_items r.closed); current = option_map (λ v. map symbol_of (vec_items v)) r.current }

-- What is read comes to what is told of the answer, or is refused and so is the answer, or memory ran out, which says nothing.
abbrev pub Comes : {A B : Type 0} → Result A (Failure Refusal) → Option B → (A → B) → Type 0
Comes (Ok x) reading told = reading ≡ Some (told x)
Comes (Err (Refused f)) reading told = reading ≡ None
Comes (Err NoMemory) reading told = Unit {0}

-- A failure of the run as one of the template.
abbrev pub flawed_lem : Failure Refusal → Flaw → Failure Flaw
flawed_lem (Refused r) f = Refused f
flawed_lem NoMemory f = NoMemory
