-- How the items of a template go on.
use Rattle.std.specs.Prelude.{◌≡◌, ℕ, ◌<◌, ◌≤◌, List, length, Some, None, Ok, Err, Option, Result}
use Rattle.fault.specs.declared.flaw.Flaw.{Flaw}
use Rattle.fault.specs.Refusal.{flaw_of}
use Rattle.template.specs.declared.items.Items.{Items}
use Rattle.template.specs.declared.items.Placed.{Placed}
use Rattle.template.specs.Lexing.{Lexed, end, fault, EndsAt, then, lexed_from}

-- What the items of a template give next, from the place that stands first to the one that stands last.
abbrev pub read_next : List ℕ → ℕ → Option (Result Placed Flaw) → ℕ → Lexed
read_next bs p None q = end p
read_next bs p (Some (Ok x)) q = then x.item x.place (lexed_from bs q)
read_next bs p (Some (Err f)) q = fault (flaw_of f)

abbrev pub GoesOn : ℕ → ℕ → Option (Result Placed Flaw) → ℕ → Type 0
GoesOn len p None q = (len ≤ p) × (q ≡ p)
GoesOn len p (Some (Ok x)) q = (x.place ≡ p) × (p < q) × (q ≤ len) × EndsAt x.item q
GoesOn len p (Some (Err f)) q = (p < len) × (q ≡ len)

pub record Reads (s : Items) (r : Option (Result Placed Flaw)) (t : Items) : Type 0 where
  pub same : t.template.now ≡ s.template.now
  pub reads : read_next s.template.now s.at r t.at ≡ lexed_from s.template.now s.at
  pub onward : GoesOn (length s.template.now) s.at r t.at
