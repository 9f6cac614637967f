use Rattle.std.proofs.Common.{rules, tests, sym, ◌∙◌}
use Rattle.std.specs.Str.{bytes_eq}
use Rattle.std.proofs.lemmas.Iterator.{YieldsList-from_slice}
use Rattle.std.proofs.lemmas.Iterator.Search.{any_from_yields_List}
use Rattle.record.proofs.Judging.{named_in}
use Rattle.record.proofs.writer.has_name.Goals as goal

pub returns : goal.returns
returns c =
    any_from_yields_List (λ l. bytes_eq l.name.now c.args.name.now) _ _ _ c.any.ensures.ran (YieldsList-from_slice c.args.pairs.now cc) (λ x b q k. search (rules, tests))
    ∙ sym (named_in c.args.name.now c.args.pairs.now)
