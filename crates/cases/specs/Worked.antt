-- Cases of the rules with what they come to, by the definitions that the contracts of the calls cite.
use Rattle.std.specs.Prelude.{◌≡◌, ℕ, zero, suc, List, [], ◌∷◌, map, Some, None, Ok, Err, codes}
use Rattle.host.specs.Meaning.{Meaning}
use Rattle.host.specs.Run.{Token, byte, plan, reading}
use Rattle.fault.specs.Refusal.{report, of_hole}
use Rattle.template.specs.Judging.{verdict, refused, accepted}
use Rattle.template.specs.Items.{items}
use Rattle.printer.specs.Held.{opened, judged_bind}
use Rattle.printer.specs.Printing.{printed}
use Rattle.record.specs.Format.{packed}
use Rattle.merge.specs.Merging.{merged}
use Rattle.shell.specs.Table.{shell}
use Rattle.sql.specs.Table.{sql}
use Rattle.csv_host.specs.Table.{csv}

-- A token of some kind that holds these bytes.
abbrev pub token : ℕ → List ℕ → Token
token kind bytes = record { kind = kind; value = map byte bytes }

-- The values of the holes: one for all of them, or one for hole 0 and another for the rest.
abbrev pub all_holes : List ℕ → ℕ → List ℕ
all_holes v k = v

abbrev pub first_and_rest : List ℕ → List ℕ → ℕ → List ℕ
first_and_rest v w zero = v
first_and_rest v w (suc k) = w

-- The empty template is accepted with no hole, plans no token and prints no byte; and no bytes read as no token.
pub record EmptyTemplate (m : Meaning) : Type 0 where
  pub checked : verdict m (codes "") ≡ accepted 0 []
  pub planned : plan m (items (codes "")) ≡ Some []
  pub prints : (v : ℕ → List ℕ) (room : ℕ) → printed m v (codes "") room ≡ Ok (codes "")
  pub reads : reading m (codes "") ≡ Some []

-- With the values v the template t is printed as the text w into 100 bytes, and w reads as these tokens.
pub record PrintedAndRead (m : Meaning) (v : ℕ → List ℕ) (t w : List ℕ) (tokens : List Token) : Type 0 where
  pub prints : printed m v t 100 ≡ Ok w
  pub reads : reading m w ≡ Some tokens

pub record WorkedCases : Type 0 where
  pub empty_in_shell : EmptyTemplate shell
  pub empty_in_sql : EmptyTemplate sql
  pub empty_in_csv : EmptyTemplate csv
  -- An empty value is a word of its own.
  pub shell_empty_value :
      PrintedAndRead shell (all_holes (codes "")) (codes "echo @{a}") (codes "echo ''") (token 1 (codes "echo") ∷ token 1 (codes "") ∷ [])
  -- Between double quotes a dollar sign gets a backslash.
  pub shell_dollar_in_quotes :
      PrintedAndRead shell (all_holes (codes "$5")) (codes "\"@{a}\"") (codes "\"\\$5\"") (token 1 (codes "$5") ∷ [])
  -- The opening quote of the second hole would double the closing one of the first.
  pub sql_hole_after_hole : verdict sql (codes "@{a}@{b}") ≡ refused (report 7 4)
  -- With a quote between them two holes are one text, with that quote in it.
  pub sql_quote_between_holes :
      PrintedAndRead sql (first_and_rest (codes "x") (codes "y")) (codes "@{a}'@{b}'") (codes "'x''y'") (token 2 (codes "x'y") ∷ [])
  -- A bare field turns a comma away, and a quoted one takes it.
  pub csv_comma_in_bare_field : judged_bind csv (codes "a@{v}") (opened 1) 0 (codes ",") ≡ Some (of_hole 13 0 0)
  pub csv_comma_in_quotes : judged_bind csv (codes "\"a@{v}\"") (opened 1) 0 (codes ",") ≡ None
  pub csv_comma_printed :
      PrintedAndRead csv (all_holes (codes ",")) (codes "\"a@{v}\"") (codes "\"a,\"") (token 1 (codes "a,") ∷ token 2 (codes "") ∷ [])
  -- No letter follows the quote that a hole closes with.
  pub csv_byte_after_hole : verdict csv (codes "@{v}a") ≡ refused (report 6 4)
  -- The record has no value of the second name; its end stands at place 13.
  pub sql_name_missing : merged sql (codes "(@{site}, @{cm})") (packed ((codes "site", codes "Elm") ∷ [])) 0 100 ≡ Err (of_hole 30 1 13)
