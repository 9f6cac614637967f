use Rattle.std.proofs.Common.{arith}
use Rattle.template.proofs.Known.{named}
use Rattle.template.proofs.lexer.brace.Goals as goal

pub overflow_sub-result : goal.overflow_sub-result
overflow_sub-result c =
    let it = named c.args.template.now c.args.at c.in-Some.end c.requires.within (c.requires.known c.in-Some.end c.in-Some.is) in
    omega (arith, it.1)

pub returns-in-Some-clause-within : goal.returns-in-Some-clause-within
returns-in-Some-clause-within c =
    let it = named c.args.template.now c.args.at c.in-Some.end c.requires.within (c.requires.known c.in-Some.end c.in-Some.is) in
    (it.1, it.2)
