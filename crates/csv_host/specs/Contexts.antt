-- The numbers of the contexts: 0 where a row starts, 1 where another field starts, 2 in a field without quotes,
-- 3 in one with quotes, 4 after a quote in it, 5 after a carriage return.
use Rattle.std.specs.Prelude.{ℕ}
use Rattle.csv_host.specs.declared.context.Context.{Context}
use Rattle.csv_host.specs.declared.context.Context.TheVariants.{RowStart, FieldStart, Bare, Quoted, QuoteSeen, ReturnSeen}

abbrev pub context_number : Context → ℕ
context_number RowStart = 0
context_number FieldStart = 1
context_number Bare = 2
context_number Quoted = 3
context_number QuoteSeen = 4
context_number ReturnSeen = 5
