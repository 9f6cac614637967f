use Rattle.std.proofs.Common.{◌≡◌, ◌+◌, ◌-◌, ℕ, false, length, take, drop, ap, ◌∙◌, arith, rules}
use Rattle.std.proofs.lemmas.List.{drop-drop, length-take-le, length-drop}
use Rattle.std.specs.List.{prefix_len}
use Rattle.template.specs.Lexing.{is_plain}
use Rattle.template.proofs.Signs.{first_plain}
use Rattle.template.proofs.items.plain_len.Goals as goal

pub loop-at-preserved : goal.loop-at-preserved
loop-at-preserved c =
    let bs = c.args.bytes.now in
    let at = c.loop-at.at in
    let n = at + 16 - at in
    let none : c.has_sign.result ≡ false = search rules in
    let sized : length (take n (drop at bs)) ≡ n = length-take-le n (drop at bs) (omega (arith, length-drop at bs, c.loop-at-test.true)) in
    let past = first_plain n (drop at bs) (c.has_sign.ensures none) in
    let rest : drop n (drop at bs) ≡ drop (at + 16) bs = drop-drop n at bs ∙ ap (λ (k : ℕ). drop k bs) (omega arith) in
    record {
      within = omega (arith, c.loop-at-test.true);
      none = c.loop-at.invariant.none ∙ ap (λ (k : ℕ). at + k) (past ∙ ap (λ l. length (take n (drop at bs)) + prefix_len is_plain l) rest) ∙ omega (arith, sized);
    }
