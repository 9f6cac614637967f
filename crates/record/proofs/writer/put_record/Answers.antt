use Rattle.record.proofs.Judging.{short_parts}
use Rattle.record.proofs.writer.put_record.Goals as goal

pub put_field-requires-clause-short : goal.put_field-requires-clause-short
put_field-requires-clause-short c = (short_parts _ _ _ c.loop-pair-test.true c.requires.good.pairs).0

pub put_field-requires-in-loop-pair-clause-short : goal.put_field-requires-in-loop-pair-clause-short
put_field-requires-in-loop-pair-clause-short c = (short_parts _ _ _ c.loop-pair-test.true c.requires.good.pairs).1
