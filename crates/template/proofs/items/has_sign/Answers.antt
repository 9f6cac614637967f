use Rattle.std.proofs.Common.{◌+◌, ℕ, ap, ◌∙◌, arith}
use Rattle.template.proofs.Signs.{past_plain, all_plain, neither}
use Rattle.template.proofs.items.has_sign.Goals as goal

pub loop-byte-preserved : goal.loop-byte-preserved
loop-byte-preserved c = record {
  none = λ e. let p = neither _ _ e in c.loop-byte.invariant.none p.0 ∙ past_plain c.args.bytes.now c.loop-byte.byte-index c.loop-byte-test.true p.1;
}

pub returns : goal.returns
returns c = λ e.
    let i = c.loop-byte.byte-index in
    let done = all_plain c.args.bytes.now i (omega (arith, c.loop-byte-test.false)) in
    c.loop-byte.invariant.none e ∙ ap (λ (n : ℕ). i + n) done ∙ omega (arith, c.loop-byte-test.false, c.loop-byte.auto.byte-index-end)
