use Rattle.std.proofs.Common.{◌≡◌, sym, subst, rules}
use Rattle.printer.specs.Calls.{state_of}
use Rattle.printer.specs.Held.{State, Holds, opened}
use Rattle.printer.specs.Slate.{fresh}
use Rattle.printer.proofs.Linked.{opened_holds}
use Rattle.printer.proofs.open.open.Goals as goal

pub returns-clause-slate : goal.returns-clause-slate
returns-clause-slate g c =
    let n = c.args.checked.holes in
    let state : state_of c.new.result c.clear.new.self.table ≡ opened n = search rules in
    subst (λ (st : State). Holds st (fresh n)) (sym state) (opened_holds n c.args.checked.few)
