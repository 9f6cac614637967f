-- Each case is computed.
use Rattle.std.proofs.Common.{◌≡◌, ℕ, leb, [], Ok, refl, ap}
use lib.Dec.{leb-zero}
use Rattle.printer.specs.Printing.{in_room}
use Rattle.cases.proofs.promise.worked_cases.Goals as goal

-- The empty text fits into any room.
empty_text_fits : (room : ℕ) → in_room (leb 0 room) [] ≡ Ok []
empty_text_fits room = ap (λ fits. in_room fits []) (leb-zero room)

pub returns : goal.returns
returns c = record {
  empty_in_shell = record { checked = refl; planned = refl; prints = λ v. empty_text_fits; reads = refl };
  empty_in_sql = record { checked = refl; planned = refl; prints = λ v. empty_text_fits; reads = refl };
  empty_in_csv = record { checked = refl; planned = refl; prints = λ v. empty_text_fits; reads = refl };
  shell_empty_value = record { prints = refl; reads = refl };
  shell_dollar_in_quotes = record { prints = refl; reads = refl };
  sql_hole_after_hole = refl;
  sql_quote_between_holes = record { prints = refl; reads = refl };
  csv_comma_in_bare_field = refl;
  csv_comma_in_quotes = refl;
  csv_comma_printed = record { prints = refl; reads = refl };
  csv_byte_after_hole = refl;
  sql_name_missing = refl;
}
