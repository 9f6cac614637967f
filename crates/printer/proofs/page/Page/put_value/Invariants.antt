use Rattle.std.proofs.Common.{◌≡◌, ◌+◌, ◌*◌, ◌≤◌, drop}
use Rattle.printer.specs.Passes.{spelt_out, onward}
use Rattle.printer.proofs.page.Page.put_value.Given as goal

abbrev pub invariant-loop-place : goal.invariant-loop-place
invariant-loop-place g l =
    let m = g.H.Host.meaning l.host in
    record {
      same : onward l.self.end l.out (spelt_out m l.body l.hole l.place (drop l.place l.value)) ≡ onward l.initial.self.end l.initial.out (spelt_out m l.body l.hole 0 l.value);
      near : l.self.end ≤ l.initial.self.end + 6 * l.place;
    }
