use Rattle.std.proofs.Common.{ap}
use Rattle.record.specs.Answers.{by_state}
use Rattle.gabirong.proofs.Places.{reaches}
use Rattle.gabirong.proofs.records.record_at.Goals as goal

pub returns-in-Found : goal.returns-in-Found
returns-in-Found c =
    let read = c.record-read.result in
    let was = c.record-read.ensures.law.was _ _ _ (ap (λ s. by_state s c.args.input.now read) c.in-Found.is) in
    reaches _ _ _ _ was.stands was.next_is
