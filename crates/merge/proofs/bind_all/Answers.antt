use Rattle.std.proofs.Common.{rules}
use Rattle.merge.proofs.Steps.{after_plain}
use Rattle.merge.proofs.bind_all.Goals as goal

pub returns-in_default-clause-came : goal.returns-in_default-clause-came
returns-in_default-clause-came g c =
    let same = after_plain (g.H.Host.meaning c.args.host.now) c.args.survey.now c.args.source.now c.loop-read.filling c.loop-read.table c.loop-read.items c.plain.new.self _ c.loop-read.hole _ c.plain.ensures.reads c.loop-read.invariant.same in
    search (rules, same)

pub returns-in_err-item-clause-came : goal.returns-in_err-item-clause-came
returns-in_err-item-clause-came g c =
    let same = after_plain (g.H.Host.meaning c.args.host.now) c.args.survey.now c.args.source.now c.loop-read.filling c.loop-read.table c.loop-read.items c.plain.new.self _ c.loop-read.hole _ c.plain.ensures.reads c.loop-read.invariant.same in
    search (rules, same)

pub returns-in_err-value-clause-came : goal.returns-in_err-value-clause-came
returns-in_err-value-clause-came g c =
    let same = after_plain (g.H.Host.meaning c.args.host.now) c.args.survey.now c.args.source.now c.loop-read.filling c.loop-read.table c.loop-read.items c.plain.new.self _ c.loop-read.hole _ c.plain.ensures.reads c.loop-read.invariant.same in
    search (rules, same)

pub returns-in_err-bind_borrowed-clause-came : goal.returns-in_err-bind_borrowed-clause-came
returns-in_err-bind_borrowed-clause-came g c =
    let same = after_plain (g.H.Host.meaning c.args.host.now) c.args.survey.now c.args.source.now c.loop-read.filling c.loop-read.table c.loop-read.items c.plain.new.self _ c.loop-read.hole _ c.plain.ensures.reads c.loop-read.invariant.same in
    search (rules, same)

pub loop-read-preserved-in-Hole : goal.loop-read-preserved-in-Hole
loop-read-preserved-in-Hole g c =
    let same = after_plain (g.H.Host.meaning c.args.host.now) c.args.survey.now c.args.source.now c.loop-read.filling c.loop-read.table c.loop-read.items c.plain.new.self _ c.loop-read.hole _ c.plain.ensures.reads c.loop-read.invariant.same in
    search (rules, same)

pub loop-read-preserved : goal.loop-read-preserved
loop-read-preserved g c =
    let same = after_plain (g.H.Host.meaning c.args.host.now) c.args.survey.now c.args.source.now c.loop-read.filling c.loop-read.table c.loop-read.items c.plain.new.self _ c.loop-read.hole _ c.plain.ensures.reads c.loop-read.invariant.same in
    search (rules, same)
