-- The rows that rows of borrowed values stand for.
use Rattle.std.specs.Prelude.{List, map, Some}
use Rattle.printer.specs.declared.borrowed.BorrowedRow.{BorrowedRow}
use Rattle.printer.specs.declared.row.Row.{Row}
use Rattle.printer.specs.Rows.{row_of}

-- Each stands for the row into which its value would be copied.
abbrev pub rows_in : List BorrowedRow → List Row
rows_in rs = map (λ r. row_of (Some r.value.now)) rs
