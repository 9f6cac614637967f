use Rattle.std.proofs.Common.{rules}
use Rattle.printer.specs.Calls.{bodies_of}
use Rattle.printer.proofs.Linked.{tracks_bind}
use Rattle.printer.proofs.filling.Filling.bind_surveyed.Goals as goal

pub returns-in_err-judge_bind-clause-slate : goal.returns-in_err-judge_bind-clause-slate
returns-in_err-judge_bind-clause-slate g c =
    tracks_bind _ _ (g.H.Host.meaning c.args.sheet.now.host) (bodies_of c.args.survey.now) c.args.hole c.args.value.now _ (search rules) (search rules)

pub returns-clause-slate : goal.returns-clause-slate
returns-clause-slate g c =
    tracks_bind _ _ (g.H.Host.meaning c.args.sheet.now.host) (bodies_of c.args.survey.now) c.args.hole c.args.value.now _ (search rules) (search rules)
