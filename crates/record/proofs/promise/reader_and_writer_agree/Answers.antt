use Rattle.record.proofs.Agreement.{reader_and_writer_agree_lem}
use Rattle.record.proofs.promise.reader_and_writer_agree.Goals as goal

pub returns : goal.returns
returns c = reader_and_writer_agree_lem
