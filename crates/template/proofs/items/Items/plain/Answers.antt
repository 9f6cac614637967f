use Rattle.std.proofs.Common.{◌≡◌, ◌+◌, ◌-◌, length, take, drop, sym, ap, ◌∙◌, rules, arith}
use Rattle.std.proofs.lemmas.List.{take_all, length-drop}
use Rattle.template.specs.Lexing.{lexed_from, literals, ends_in}
use Rattle.template.proofs.Known.{past_literals}
use Rattle.template.proofs.Read.{plain_run}
use Rattle.template.proofs.items.Items.plain.Goals as goal

pub invariant_of-self : goal.invariant_of-self
invariant_of-self c =
    let s = c.args.self.now in
    let t = s.template.now in
    let n = c.plain_len-len.result in
    let rest = take (length t - s.at) (drop s.at t) in
    let reads : lexed_from t s.at ≡ literals s.at (take n rest) (lexed_from t (s.at + n)) = plain_run t s.at rest n (take_all (length t - s.at) (drop s.at t) (omega (arith, length-drop s.at t))) c.plain_len-len.ensures.len in
    let same : ends_in (lexed_from t s.at) ≡ ends_in (lexed_from t (s.at + n)) = ap ends_in reads ∙ past_literals (take n rest) s.at (lexed_from t (s.at + n)) in
    let was : take (length s.ends.now) (ends_in (lexed_from t s.at)) ≡ s.ends.now = search rules in
    record { known = ap (take (length s.ends.now)) (sym same) ∙ was }

pub returns-clause-reads : goal.returns-clause-reads
returns-clause-reads c =
    let s = c.args.self.now in
    let t = s.template.now in
    plain_run t s.at (take (length t - s.at) (drop s.at t)) c.plain_len-len.result (take_all (length t - s.at) (drop s.at t) (omega (arith, length-drop s.at t))) c.plain_len-len.ensures.len
