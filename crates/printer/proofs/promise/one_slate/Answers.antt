use Rattle.printer.proofs.Unique.{one_slate_lem}
use Rattle.printer.proofs.promise.one_slate.Goals as goal

pub returns : goal.returns
returns c = one_slate_lem
