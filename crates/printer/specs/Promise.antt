-- What is promised of values on a sheet.
use Rattle.std.specs.Prelude.{◌≡◌, ℕ, ◌<◌, List, length, Ok}
use Rattle.host.specs.Meaning.{Meaning, Sound}
use Rattle.printer.specs.Rows.{value_at}
use Rattle.printer.specs.Held.{State, filled}
use Rattle.printer.specs.Printing.{printed, ReadsBack}

-- A value that is bound to a hole and printed reads back as that value.
abbrev pub BoundValueReadsBack : Type 0
BoundValueReadsBack =
    (m : Meaning) → Sound m → (t : List ℕ) (st : State) (hole : ℕ) (x : List ℕ) (room : ℕ) (w : List ℕ) → hole < length st.rows → printed m (value_at (filled st hole x).rows) t room ≡ Ok w → (v : ℕ → List ℕ) × (v hole ≡ x) × ReadsBack m v t w
