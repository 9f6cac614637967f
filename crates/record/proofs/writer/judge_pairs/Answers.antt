use Rattle.std.proofs.lemmas.Result.{err_from_is_err_and}
use Rattle.record.proofs.Judging.{first_wrong}
use Rattle.record.proofs.writer.judge_pairs.Goals as goal

pub returns-in_err-at : goal.returns-in_err-at
returns-in_err-at c =
    let p = err_from_is_err_and c.from_residual.result c.from_residual.ensures.1 in
    rw (p.1, p.2) (first_wrong c.args.pairs.now c.loop-before.before _ _ _ _ _ _ c.loop-before-test.true c.loop-before.invariant.left c.in_err-at.ensures.judges)
