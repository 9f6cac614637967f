use Rattle.printer.specs.Rows.{value_at}
use Rattle.printer.specs.Held.{filled}
use Rattle.printer.proofs.Linked.{stored}
use Rattle.printer.proofs.Bound.{printed_reads}
use Rattle.printer.proofs.promise.bound_value_reads_back.Goals as goal

pub returns : goal.returns
returns c = λ m sound t st hole x room w lt e. (value_at (filled st hole x).rows, stored st.rows hole x lt, printed_reads m sound (value_at (filled st hole x).rows) t room w e)
