-- The promise of the definitions alone.
use Rattle.std.specs.Prelude.{◌≡◌, ℕ, List, length}
use Rattle.host.specs.Meaning.{Meaning, Sound}
use Rattle.host.specs.Run.{start}
use Rattle.host.specs.Promise.{holes, bodies}
use Rattle.template.specs.Items.{items}
use Rattle.template.specs.Judging.{verdict, accepted}
use Rattle.printer.specs.Held.{rows_of}
use Rattle.printer.specs.Printing.{printed}
use Rattle.printer.specs.Rows.{value_at}
use Rattle.printer.specs.Slate.{lowest, judge_finish_lem}
use Rattle.worklist.specs.Calls.{print_after, output_after}
use Rattle.worklist.specs.Lines.{Order}
use Rattle.worklist.specs.Promise.{slate_after, slate_answers, Kept}

-- The slate's own answers, its rows, its finish and the print of its values keep the promise, for every sound host, every template that it
-- accepts, every list and every output; and the count and the bodies that the host accepts the template with are those of its holes.
abbrev pub PromiseKept : Type 0
PromiseKept =
    (m : Meaning) → Sound m → (t : List ℕ) (n : ℕ) (bs : List ℕ) → verdict m t ≡ accepted n bs
    → (n ≡ holes (items t)) × (bs ≡ bodies m (items t) 0 start) × ((os : List Order) (out : List ℕ) → (let finish = judge_finish_lem n (lowest (slate_after m t os)) in let x = printed m (value_at (rows_of (slate_after m t os))) t (length out) in Kept m t os (slate_answers m t os) (rows_of (slate_after m t os)) finish (print_after finish x) out (output_after finish out x)))
