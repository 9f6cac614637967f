-- The hosts by their names.
use Rattle.std.specs.Prelude.{ℕ, List, codes, refl}
use Rattle.host.specs.Meaning.{Meaning, Sound}
use Rattle.host.proofs.Sound as table
use Rattle.shell.specs.Table as shell_table
use Rattle.sql.specs.Table as sql_table
use Rattle.csv_host.specs.Table as csv_table
use Rattle.casework.specs.declared.under.Under.{Under}
use Rattle.casework.specs.declared.under.Under.TheVariants.{Shell, Sql, Csv}

abbrev pub meaning_under : Under → Meaning
meaning_under Shell = shell_table.shell
meaning_under Sql = sql_table.sql
meaning_under Csv = csv_table.csv

abbrev pub name_of : Under → List ℕ
name_of Shell = codes "shell"
name_of Sql = codes "sql"
name_of Csv = codes "csv"

-- Each host keeps the laws, since its table passes the tests.
pub sound_under : (u : Under) → Sound (meaning_under u)
sound_under Shell = table.sound shell_table.rows refl
sound_under Sql = table.sound sql_table.rows refl
sound_under Csv = table.sound csv_table.rows refl
