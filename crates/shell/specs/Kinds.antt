-- The kinds of tokens: their numbers, and their names as they are shown.
use Rattle.std.specs.Prelude.{ℕ, List, codes}
use Rattle.shell.specs.declared.kind.Kind.{Kind}
use Rattle.shell.specs.declared.kind.Kind.TheVariants.{Word, Operator}

abbrev pub kind_number : Kind → ℕ
kind_number Word = 1
kind_number Operator = 2

abbrev pub kind_name : Kind → List ℕ
kind_name Word = codes "word"
kind_name Operator = codes "operator"
