use Rattle.std.proofs.Common.{◌-◌, length}
use Rattle.gabirong.proofs.records.tell_records.Given as goal

abbrev pub decreases-loop-file : goal.decreases-loop-file
decreases-loop-file l = length l.input - l.place
