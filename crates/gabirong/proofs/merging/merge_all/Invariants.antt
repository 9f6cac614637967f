use Rattle.std.proofs.Common.{◌-◌, length}
use Rattle.gabirong.proofs.merging.merge_all.Given as goal

abbrev pub decreases-loop-merging : goal.decreases-loop-merging
decreases-loop-merging g l = length l.merging.input.items - l.place
