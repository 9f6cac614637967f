-- The numbers of the contexts: 0 between tokens, 1 in a word, 2 in a text, 3 after a quote in a text.
use Rattle.std.specs.Prelude.{ℕ}
use Rattle.sql.specs.declared.context.Context.{Context}
use Rattle.sql.specs.declared.context.Context.TheVariants.{Gap, InWord, InText, QuoteSeen}

abbrev pub context_number : Context → ℕ
context_number Gap = 0
context_number InWord = 1
context_number InText = 2
context_number QuoteSeen = 3
