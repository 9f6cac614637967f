-- What binds and releases are told on a slate, beside what the bytes of a value decide.
use Rattle.std.proofs.Common.{ℕ, List, arith}
use Rattle.host.specs.Meaning.{Meaning}
use Rattle.printer.specs.Slate.{Slate, verdict_bind, verdict_release}
use Rattle.worklist.specs.Lines.{reply}
use Rattle.worklist.specs.Promise.{BindTold, ReleaseTold}
use Rattle.worklist.proofs.Slates.{owed_within}

pub release_told : (ss : Slate) (h : ℕ) → ReleaseTold ss h (reply (verdict_release ss h))
release_told ss h = record {
  taken_where = (λ e. grind arith, λ w. grind arith);
  no_such_hole = (λ e. grind arith, λ w. grind arith);
  owed_already = (λ e. grind arith, λ w. grind (arith, owed_within));
}

pub bind_told : (m : Meaning) (bodies : List ℕ) (ss : Slate) (h : ℕ) (v : List ℕ) → BindTold ss h v (reply (verdict_bind m bodies ss h v))
bind_told m bodies ss h v = record {
  no_such_hole = (λ e. grind arith, λ x. grind arith);
  not_owed = (λ e. grind arith, λ x. grind arith);
  too_long = (λ e. grind arith, λ x. grind (arith, owed_within));
}
