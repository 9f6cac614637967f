use Rattle.std.proofs.Common.{ap, rules}
use Rattle.printer.specs.Calls.{bodies_of}
use Rattle.worklist.proofs.Listed.{gone_more}
use Rattle.worklist.proofs.work.follow_all.Goals as goal

pub loop-line-preserved : goal.loop-line-preserved
loop-line-preserved g c =
    let l = c.loop-line in (
      gone_more (g.H.Host.meaning c.args.sheet.now.host) (bodies_of c.args.survey.now) _ _ _ _ _ _ _ c.args.lines.now l.line-index _ _ (ap g.H.Host.meaning l.invariant.2) c.loop-line-test.true c.push_reserved.ensures.items l.invariant.0 c.follow.ensures.slate,
      search rules,
      search rules,
      search rules,
      search rules,
    )
