use Rattle.std.proofs.Common.{rules}
use Rattle.printer.proofs.Runs.{after_plain}
use Rattle.printer.proofs.Writing.{setting_out}
use Rattle.printer.proofs.set_out.set_out_text.Goals as goal

pub returns-in_default : goal.returns-in_default
returns-in_default g c =
    let same = after_plain (g.H.Host.meaning c.args.host.now) c.args.survey.now c.args.values.now c.loop-read.items c.plain.new.self _ c.loop-read.page c.put_run.new.self c.loop-read.holes _ c.put_run.new.out _ c.plain.ensures.template c.plain.ensures.reads c.put_run.ensures.end c.put_run.ensures.output c.loop-read.invariant.same in
    search (rules, setting_out, same)

pub returns-in_err-item : goal.returns-in_err-item
returns-in_err-item g c =
    let same = after_plain (g.H.Host.meaning c.args.host.now) c.args.survey.now c.args.values.now c.loop-read.items c.plain.new.self _ c.loop-read.page c.put_run.new.self c.loop-read.holes _ c.put_run.new.out _ c.plain.ensures.template c.plain.ensures.reads c.put_run.ensures.end c.put_run.ensures.output c.loop-read.invariant.same in
    search (rules, setting_out, same)

pub loop-read-preserved-in-Literal : goal.loop-read-preserved-in-Literal
loop-read-preserved-in-Literal g c =
    let same = after_plain (g.H.Host.meaning c.args.host.now) c.args.survey.now c.args.values.now c.loop-read.items c.plain.new.self _ c.loop-read.page c.put_run.new.self c.loop-read.holes _ c.put_run.new.out _ c.plain.ensures.template c.plain.ensures.reads c.put_run.ensures.end c.put_run.ensures.output c.loop-read.invariant.same in
    search (rules, setting_out, same)

pub returns-then-not-recipe : goal.returns-then-not-recipe
returns-then-not-recipe g c =
    let same = after_plain (g.H.Host.meaning c.args.host.now) c.args.survey.now c.args.values.now c.loop-read.items c.plain.new.self _ c.loop-read.page c.put_run.new.self c.loop-read.holes _ c.put_run.new.out _ c.plain.ensures.template c.plain.ensures.reads c.put_run.ensures.end c.put_run.ensures.output c.loop-read.invariant.same in
    search (rules, setting_out, same)

pub returns-in_err-put_hole-in-Hole : goal.returns-in_err-put_hole-in-Hole
returns-in_err-put_hole-in-Hole g c =
    let same = after_plain (g.H.Host.meaning c.args.host.now) c.args.survey.now c.args.values.now c.loop-read.items c.plain.new.self _ c.loop-read.page c.put_run.new.self c.loop-read.holes _ c.put_run.new.out _ c.plain.ensures.template c.plain.ensures.reads c.put_run.ensures.end c.put_run.ensures.output c.loop-read.invariant.same in
    search (rules, setting_out, same)

pub loop-read-preserved : goal.loop-read-preserved
loop-read-preserved g c =
    let same = after_plain (g.H.Host.meaning c.args.host.now) c.args.survey.now c.args.values.now c.loop-read.items c.plain.new.self _ c.loop-read.page c.put_run.new.self c.loop-read.holes _ c.put_run.new.out _ c.plain.ensures.template c.plain.ensures.reads c.put_run.ensures.end c.put_run.ensures.output c.loop-read.invariant.same in
    search (rules, setting_out, same)
