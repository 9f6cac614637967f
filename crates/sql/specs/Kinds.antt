-- The kinds of tokens: their numbers, and their names as they are shown.
use Rattle.std.specs.Prelude.{ℕ, List, codes}
use Rattle.sql.specs.declared.kind.Kind.{Kind}
use Rattle.sql.specs.declared.kind.Kind.TheVariants.{Word, Text, Sign}

abbrev pub kind_number : Kind → ℕ
kind_number Word = 1
kind_number Text = 2
kind_number Sign = 3

abbrev pub kind_name : Kind → List ℕ
kind_name Word = codes "word"
kind_name Text = codes "text"
kind_name Sign = codes "sign"
