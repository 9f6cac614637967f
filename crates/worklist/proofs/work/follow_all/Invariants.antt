use Rattle.std.proofs.Common.{◌≡◌, ◌+◌, ◌≤◌, length, take, vec_items, vec_len, vec_capacity}
use Rattle.printer.specs.Calls.{state_of, bodies_of}
use Rattle.worklist.specs.Calls.{GoneDown}
use Rattle.worklist.proofs.work.follow_all.Given as goal

abbrev pub invariant-loop-line : goal.invariant-loop-line
invariant-loop-line g l =
    let s = l.initial.sheet in
    let f = l.initial.filling in
    GoneDown (g.H.Host.meaning s.host) (bodies_of l.survey) (state_of f s.table) (state_of l.filling l.sheet.table) (vec_items l.initial.answers) (vec_items l.answers) (take l.line-index l.lines)
    × (vec_len l.answers + length l.lines ≤ vec_capacity l.answers + l.line-index)
    × (l.sheet.host ≡ s.host)
    × (l.filling.template ≡ f.template)
    × (vec_capacity l.answers ≡ vec_capacity l.initial.answers)
