use Rattle.std.proofs.Common.{rules, ◌∙◌}
use Rattle.record.proofs.Judging.{verdict_ok, refused_or_good_lem}
use Rattle.record.proofs.Laws.{wrote}
use Rattle.record.proofs.writer.write_record.Goals as goal

pub put_record-requires-clause-good : goal.put_record-requires-clause-good
put_record-requires-clause-good c = (refused_or_good_lem _ _).good (verdict_ok _ _ _ c.in_ok-len.ensures).0

pub returns-clause-wrote : goal.returns-clause-wrote
returns-clause-wrote c = wrote _ _ _ _ _ _ (c.len.ensures ∙ c.args.file.now.ok.0) c.in_ok-len.ensures (search rules)
