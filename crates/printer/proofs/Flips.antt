-- One bit of a map: how it is read, set and cleared.
use Rattle.std.proofs.Common.{◌≡◌, ℕ, ◌+◌, ◌-◌, ◌*◌, ◌/◌, ◌%◌, ◌^◌, ◌<◌, ◌≤◌, true, false, sym, ap, ◌∙◌, subst, one-mul, pow-suc, zero-mul, one-add, arith}
use lib.Bits.{bit_and, bit_or, bit_xor, and_high, or_disjoint, xor_add_and, or_lt}
use Rattle.std.proofs.lemmas.Nat.{one_shl, pow_below}
use Rattle.std.proofs.lemmas.Bool.{eqb-true, eqb-false}
use Rattle.printer.specs.Held.{owed_bit}

one_bit : (k : ℕ) → 2 ^ (1 + k) - 2 ^ k ≡ 2 ^ k
one_bit k = ap (λ (x : ℕ). 2 ^ x - 2 ^ k) (one-add k) ∙ omega (arith, pow-suc 2 k)

and_bit : (owed k : ℕ) → bit_and owed (2 ^ k) ≡ owed / 2 ^ k % 2 * 2 ^ k
and_bit owed k = ap (λ (x : ℕ). bit_and owed x) (sym (one_bit k)) ∙ and_high owed 1 k

-- the bit of hole k as the code shifts it
abbrev pub shifted : ℕ → ℕ
shifted k = (1 * 2 ^ k) % 2 ^ 64

module _ (owed holes k : ℕ) (few : holes ≤ 64) (within : owed < 2 ^ holes) (h : k < holes) where
  shift : shifted k ≡ 2 ^ k
  shift = one_shl k 64 (omega arith)

  pub cleared : owed_bit owed k ≡ true → bit_xor owed (shifted k) ≡ owed - 2 ^ k
  cleared t =
      let on : bit_and owed (2 ^ k) ≡ 2 ^ k = and_bit owed k ∙ ap (λ (x : ℕ). x * 2 ^ k) (eqb-true _ 1 t) ∙ one-mul (2 ^ k) in
      ap (λ (x : ℕ). bit_xor owed x) shift ∙ omega (arith, xor_add_and owed (2 ^ k), on)

  pub cleared_within : owed_bit owed k ≡ true → bit_xor owed (shifted k) < 2 ^ holes
  cleared_within t = omega (arith, cleared t)

  pub raised : owed_bit owed k ≡ false → bit_or owed (shifted k) ≡ owed + 2 ^ k
  raised f =
      let zero_bit : owed / 2 ^ k % 2 ≡ 0 = omega (arith, eqb-false _ 1 f) in
      let off : bit_and owed (2 ^ k) ≡ 0 = and_bit owed k ∙ ap (λ (x : ℕ). x * 2 ^ k) zero_bit ∙ zero-mul (2 ^ k) in
      ap (λ (x : ℕ). bit_or owed x) shift ∙ or_disjoint owed (2 ^ k) off

  pub raised_within : bit_or owed (shifted k) < 2 ^ holes
  raised_within = or_lt holes owed (shifted k) within (subst (λ (x : ℕ). x < 2 ^ holes) (sym shift) (pow_below k holes h))
