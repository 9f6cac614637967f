-- Contexts and kinds by their numbers.
use Rattle.std.specs.Prelude.{◌≢◌, ◌≡◌, ℕ, ◌≤◌, Result, MatchResult}
use Rattle.host.specs.declared.effect.Refused.{Refused}
use Rattle.host.specs.declared.kind.UnknownKind.{UnknownKind}

-- The result is the context with this number, or a refusal of a number that is not below how many contexts there are.
abbrev pub IsContext : {C : Type 0} → (C → ℕ) → ℕ → ℕ → Result C Refused → Type 0
IsContext number count n r = MatchResult r (λ context. number context ≡ n) (λ _. count ≤ n)

-- The result is the kind with this number, or an error with a number that no kind has.
abbrev pub IsKind : {K : Type 0} → (K → ℕ) → ℕ → Result K UnknownKind → Type 0
IsKind {K} number n r = MatchResult r (λ kind. number kind ≡ n) (λ unknown. (unknown.0 ≡ n) × ((kind : K) → number kind ≢ n))
