-- What a walk over a text does, by marks alone: how far the listing has come, and what is written there. Assumes nothing.
use Rattle.std.specs.Prelude.{ℕ, ◌+◌, ◌/◌, ◌%◌, List, Some, None, Option, slice_set}
use Rattle.host.specs.declared.effect.Effect.{Effect}
use Rattle.host.specs.declared.effect.Middle.{Middle}
use Rattle.host.specs.declared.effect.Middle.TheVariants.{Nothing, Open, Keep}
use Rattle.reading.specs.declared.cursor.Cursor.{Cursor}

abbrev pub close_cursor : Option ℕ → Cursor → Cursor
close_cursor None k = k
close_cursor (Some kind) k = record { at = k.at + (3 + k.held); held = 0 }

abbrev pub keep_cursor : Middle → Cursor → Cursor
keep_cursor Nothing k = k
keep_cursor Open k = k
keep_cursor (Keep b) k = record { at = k.at; held = k.held + 1 }

abbrev pub after_cursor : Effect → Cursor → Cursor
after_cursor e k = close_cursor e.last (keep_cursor e.middle (close_cursor e.first k))

abbrev pub write_close : Option ℕ → Cursor → List ℕ → List ℕ
write_close None k out = out
write_close (Some kind) k out = slice_set (slice_set (slice_set out k.at kind) (k.at + 1) (k.held / 256)) (k.at + 2) (k.held % 256)

abbrev pub write_middle : Middle → Cursor → List ℕ → List ℕ
write_middle Nothing k out = out
write_middle Open k out = out
write_middle (Keep b) k out = slice_set out (k.at + (3 + k.held)) b

abbrev pub write_effect : Effect → Cursor → List ℕ → List ℕ
write_effect e k out =
    let first = close_cursor e.first k in
    write_close e.last (keep_cursor e.middle first) (write_middle e.middle first (write_close e.first k out))
