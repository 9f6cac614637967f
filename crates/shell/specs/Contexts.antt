-- The numbers of the contexts: 0 between words, 1 in a word, 2 and 3 after a backslash in either, 4 between single quotes,
-- 5 between double quotes, 6 after a backslash there.
use Rattle.std.specs.Prelude.{ℕ}
use Rattle.shell.specs.declared.context.Context.{Context}
use Rattle.shell.specs.declared.context.Context.TheVariants.{Gap, InWord, BackslashInGap, BackslashInWord, SingleQuoted, DoubleQuoted, BackslashInQuotes}

abbrev pub context_number : Context → ℕ
context_number Gap = 0
context_number InWord = 1
context_number BackslashInGap = 2
context_number BackslashInWord = 3
context_number SingleQuoted = 4
context_number DoubleQuoted = 5
context_number BackslashInQuotes = 6
