-- The kinds of tokens: their numbers, and their names as they are shown.
use Rattle.std.specs.Prelude.{ℕ, List, codes}
use Rattle.csv_host.specs.declared.kind.Kind.{Kind}
use Rattle.csv_host.specs.declared.kind.Kind.TheVariants.{Field, Row}

abbrev pub kind_number : Kind → ℕ
kind_number Field = 1
kind_number Row = 2

abbrev pub kind_name : Kind → List ℕ
kind_name Field = codes "field"
kind_name Row = codes "row"
