use Rattle.std.proofs.Common.{◌≡◌, ◌+◌, ◌*◌, ◌≤◌, drop}
use Rattle.reading.specs.Passes.{origin, measured, written}
use Rattle.reading.proofs.walk.Given as goal

abbrev pub invariant-loop-place : goal.invariant-loop-place
invariant-loop-place g l =
    let m = g.H.Host.meaning l.host in
    let rest = drop l.place-counter l.text in
    record {
      same_length : measured m rest l.context l.cursor l.place-counter ≡ measured m l.text 0 origin 0;
      same_output : written m rest l.context l.cursor l.out ≡ written m l.text 0 origin l.initial.out;
      few_held : l.cursor.held ≤ l.place-counter;
      near : l.cursor.at + l.cursor.held ≤ 7 * l.place-counter;
    }
