-- What a walk over a text answers and writes, from a context and a cursor on. Assumes nothing.
use Rattle.std.specs.Prelude.{ℕ, ◌+◌, List, [], ◌∷◌, Some, None, Ok, Err, Option, Result}
use Rattle.host.specs.declared.effect.Effect.{Effect}
use Rattle.host.specs.Meaning.{Meaning}
use Rattle.fault.specs.declared.fault.Fault.{Fault}
use Rattle.fault.specs.declared.fault.Fault.TheVariants.{TextRefused}
use Rattle.reading.specs.declared.cursor.Cursor.{Cursor}
use Rattle.reading.specs.Cursors.{after_cursor, write_effect}

abbrev pub origin : Cursor
origin = record { at = 0; held = 0 }

-- The answer: the length of the fields, or the place that is refused.
abbrev pub measure_end : Option Effect → Cursor → ℕ → Result ℕ Fault
measure_end None k p = Err (TextRefused p)
measure_end (Some e) k p = Ok (after_cursor e k).at

abbrev pub measure_step : Option (ℕ × Effect) → Cursor → ℕ → (ℕ → Cursor → ℕ → Result ℕ Fault) → Result ℕ Fault
measure_step None k p more = Err (TextRefused p)
measure_step (Some s) k p more = more s.0 (after_cursor s.1 k) (p + 1)

abbrev pub measured : Meaning → List ℕ → ℕ → Cursor → ℕ → Result ℕ Fault
measured m [] c k p = measure_end (m.end c) k p
measured m (b ∷ bs) c k p = measure_step (m.step c b) k p (measured m bs)

-- The output, as far as it has places.
abbrev pub write_end : Option Effect → Cursor → List ℕ → List ℕ
write_end None k out = out
write_end (Some e) k out = write_effect e k out

abbrev pub write_step : Option (ℕ × Effect) → Cursor → List ℕ → (ℕ → Cursor → List ℕ → List ℕ) → List ℕ
write_step None k out more = out
write_step (Some s) k out more = more s.0 (after_cursor s.1 k) (write_effect s.1 k out)

abbrev pub written : Meaning → List ℕ → ℕ → Cursor → List ℕ → List ℕ
written m [] c k out = write_end (m.end c) k out
written m (b ∷ bs) c k out = write_step (m.step c b) k out (written m bs)
