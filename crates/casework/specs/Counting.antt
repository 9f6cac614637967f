-- What a tally has counted.
use Rattle.std.specs.Prelude.{ℕ, ◌+◌, ◌-◌, ◌^◌, min, Bool, true, false}
use Rattle.casework.specs.declared.tally.Tally.{Tally}

-- One more, or the most that 64 bits hold.
abbrev pub one_more : ℕ → ℕ
one_more n = min (n + 1) (2 ^ 64 - 1)

-- Before the first case.
abbrev pub none_run : Tally
none_run = record { run = 0; wrong = 0 }

-- After one more case, which came out as expected or otherwise.
abbrev pub counted : Bool → Tally → Tally
counted true t = record { run = one_more t.run; wrong = t.wrong }
counted false t = record { run = one_more t.run; wrong = one_more t.wrong }

-- After something wrong that is no case.
abbrev pub flagged : Tally → Tally
flagged t = record { run = t.run; wrong = one_more t.wrong }
