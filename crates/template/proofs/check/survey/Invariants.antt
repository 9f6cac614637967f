use Rattle.std.proofs.Common.{◌≡◌, ◌≤◌, [], ◌++◌, length}
use Rattle.host.specs.Answers.{bytes_of}
use Rattle.template.specs.Lexing.{ends_in, lexed_from}
use Rattle.template.specs.Ends.{places_of}
use Rattle.template.specs.Judging.{judge, contexts_in}
use Rattle.template.proofs.check.survey.Given as goal

abbrev pub invariant-loop-read : goal.invariant-loop-read
invariant-loop-read g l =
    let m = g.H.Host.meaning l.host in
    (goal.iterator-loop-read g).can_next l.read-iterator
    × (goal.iterator-loop-read g).is_finite l.read-iterator
    × (l.read-iterator.template.now ≡ l.template)
    × (l.read-iterator.at ≤ length l.template)
    × (ends_in (lexed_from l.template 0) ≡ places_of l.survey.ends ++ ends_in (lexed_from l.template l.read-iterator.at))
    × (contexts_in m (lexed_from l.template 0) 0 ≡ bytes_of l.survey.contexts ++ contexts_in m (lexed_from l.template l.read-iterator.at) l.context)
    × (judge m (lexed_from l.template 0) 0 0 [] ≡ judge m (lexed_from l.template l.read-iterator.at) l.survey.bodies.len l.context (bytes_of l.survey.bodies))
