use Rattle.std.proofs.Common.{rules}
use Rattle.printer.proofs.Linked.{tracks_release}
use Rattle.printer.proofs.filling.Filling.release.Goals as goal

pub returns-in_err-judge_release-clause-slate : goal.returns-in_err-judge_release-clause-slate
returns-in_err-judge_release-clause-slate g c = tracks_release _ _ _ _ (search rules) (search rules)

pub returns-clause-slate : goal.returns-clause-slate
returns-clause-slate g c = tracks_release _ _ _ _ (search rules) (search rules)
