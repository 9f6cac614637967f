use Rattle.std.proofs.Common.{◌≡◌, arith}
use Rattle.std.proofs.lemmas.Grind.{common_steps}
use Rattle.printer.specs.Held.{lowest_bit}
use Rattle.printer.proofs.Linked.{counted}
use Rattle.printer.proofs.filling.Filling.owed.Goals as goal

pub returns-clause-slate : goal.returns-clause-slate
returns-clause-slate c = λ ss h.
    let low : c.then_some-lowest.result ≡ lowest_bit c.args.self.now.owed = grind (arith, common_steps) in
    rw low (counted _ _ ss c.args.self.now.few h)
