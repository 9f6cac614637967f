use Rattle.std.proofs.Common.{◌≡◌, ℕ, ◌+◌, [], drop}
use Rattle.std.specs.List.{between}
use Rattle.template.specs.Lexing.{lex, in_name}
use Rattle.template.proofs.lexer.name_end.Given as goal

abbrev pub invariant-loop-before : goal.invariant-loop-before
invariant-loop-before l =
    (q : ℕ) → lex (in_name q []) l.from (drop l.from l.template) ≡ lex (in_name q (between l.from (l.from + l.before) l.template)) (l.from + l.before) (drop (l.from + l.before) l.template)
