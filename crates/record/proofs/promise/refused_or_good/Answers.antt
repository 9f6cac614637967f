use Rattle.record.proofs.Judging as judging
use Rattle.record.proofs.promise.refused_or_good.Goals as goal

pub returns : goal.returns
returns c = judging.refused_or_good_lem
