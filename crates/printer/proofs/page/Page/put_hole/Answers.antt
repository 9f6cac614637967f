use Rattle.std.proofs.Common.{◌≡◌, ◌+◌, length, Ok}
use Rattle.host.specs.Answers.{brackets_of}
use Rattle.printer.specs.Passes.{spelt_out, overlaid, onward}
use Rattle.printer.proofs.Writing.{onward_closer}
use Rattle.printer.proofs.page.Page.put_hole.Goals as goal

pub returns-clause-text : goal.returns-clause-text
returns-clause-text g c =
    let b = brackets_of c.args.recipe.now in
    let x = spelt_out (g.H.Host.meaning c.args.host.now) c.args.recipe.now.body c.args.hole 0 c.args.value.now in
    let spelt : Ok (c.put_value.new.self.end, c.put_value.new.out) ≡ onward (c.args.self.now.end + length b.opener) (overlaid c.args.out.now c.args.self.now.end b.opener) x = rw (← c.as_slice.ensures, ← c.put.ensures.end, ← c.put.ensures.output) c.in_ok-put_value.ensures.text in
    rw (c.put-2.ensures.end, c.put-2.ensures.output, c.as_slice-2.ensures) (onward_closer b x _ _ _ _ spelt)
