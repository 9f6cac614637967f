-- What a slate keeps from line to line.
use Rattle.std.proofs.Common.{◌≡◌, ℕ, zero, suc, ◌<◌, ◌≤◌, Bool, true, false, List, [], ◌∷◌, length, get_or, take, set, is_some, Some, None, Ok, Err, Option, sym, refl, ap, ◌∙◌, subst, inl, inr, suc-le-suc, le_of_suc-le-suc, arith, length-set, get_or-set_other, get_or-set_same}
use lib.ListN.{length-replicate}
use Rattle.std.specs.Option.{option_map}
use Rattle.std.specs.List.{prefix_len}
use Rattle.std.proofs.lemmas.Bool.{false≢true, cases_eq, cases_lt}
use Rattle.std.proofs.lemmas.List.Sums.{prefix_len_passes}
use Rattle.host.specs.Meaning.{Meaning}
use Rattle.fault.specs.Refusal.{Refusal, of_hole}
use Rattle.printer.specs.Slate.{Slate, fresh, owed_at, lowest, spells, judge_bind_lem, judge_finish_lem, settled, verdict_bind, verdict_release, bound, released}
use Rattle.worklist.specs.Lines.{Order, Reply, bind, release, owed, answer, next, answers, final}
use Rattle.printer.specs.Slate.{value_or_none, values_on}
use Rattle.worklist.specs.Promise.{Owes, LowestOwed, IsRefused}

pub no_value : {A : Type 0} {x : A} → Some x ≡ None → ⊥
no_value e = let z : ◌≡◌ {A = ℕ} 0 1 = cc in omega arith

pub the_same : {A : Type 0} {x y : A} → Some x ≡ Some y → x ≡ y
the_same e = cc

-- a byte that fails a test is among those that the leading ones stop at
pub leading_within : (p : ℕ → Bool) (v : List ℕ) (i : ℕ) → i < length v → p (get_or v i 0) ≡ false → prefix_len p v < length v
leading_within p v i lt e =
    elim (cases_lt (prefix_len p v) (length v)) [
      | inl less ↦ less
      | inr all ↦ absurd (false≢true (sym e ∙ prefix_len_passes p v i 0 (omega arith)))
    ]

-- what is taken, and what is refused
pub keeps : (P : Slate → Type 0) (j : Option Refusal) (new old : Slate) → (j ≡ None → P new) → P old → P (settled j new old)
keeps P None new old f x = f refl
keeps P (Some e) new old f x = x

-- a byte of a value is turned away by no body
abbrev pub Spelt : Meaning → ℕ → List ℕ → Type 0
Spelt m c v = (i : ℕ) → i < length v → m.spelling c (get_or v i 0) ≡ None → ⊥

spelt_none : (m : Meaning) (c : ℕ) → Spelt m c []
spelt_none m c i h e = absurd (omega arith)

-- what the holes have, and what a released one has
none_fresh : (n k : ℕ) → get_or (fresh n) k None ≡ None
none_fresh zero k = refl
none_fresh (suc n) zero = refl
none_fresh (suc n) (suc k) = none_fresh n k

none_set : (ss : Slate) (k : ℕ) → get_or (set ss k None) k None ≡ None
none_set [] k = refl
none_set (s ∷ ss) zero = refl
none_set (s ∷ ss) (suc k) = none_set ss k

module _ (m : Meaning) (bodies : List ℕ) where
  pub bind_taken : (n : ℕ) (b : Bool) (h : ℕ) (v : List ℕ) → judge_bind_lem m bodies n b h v ≡ None → (h < n) × (length v ≤ prefix_len (spells m (get_or bodies h 0)) v)
  bind_taken n b h v e = grind arith

  -- and its hole was owed
  pub bind_owed : (n : ℕ) (b : Bool) (h : ℕ) (v : List ℕ) → judge_bind_lem m bodies n b h v ≡ None → b ≡ true
  bind_owed n b h v e = grind arith

  -- every value on the slate is spelt in the body of its hole
  abbrev pub Good : Slate → Type 0
  Good ss = (k : ℕ) → Spelt m (get_or bodies k 0) (values_on ss k)

  good_fresh : (n : ℕ) → Good (fresh n)
  good_fresh n k = subst (λ s. Spelt m (get_or bodies k 0) (value_or_none s)) (sym (none_fresh n k)) (spelt_none m (get_or bodies k 0))

  good_elsewhere : (ss : Slate) (h : ℕ) (s : Option (List ℕ)) (k : ℕ) → (k ≡ h → ⊥) → Good ss → Spelt m (get_or bodies k 0) (values_on (set ss h s) k)
  good_elsewhere ss h s k ne g = subst (λ x. Spelt m (get_or bodies k 0) (value_or_none x)) (sym (get_or-set_other ss h k s None ne)) (g k)

  good_bound : (ss : Slate) (h : ℕ) (v : List ℕ) → Good ss → Good (bound m bodies ss h v)
  good_bound ss h v g = keeps Good (verdict_bind m bodies ss h v) (set ss h (Some v)) ss new g
    where
      spelt : length v ≤ prefix_len (spells m (get_or bodies h 0)) v → Spelt m (get_or bodies h 0) v
      spelt all i lt e = let stop = leading_within (spells m (get_or bodies h 0)) v i lt (ap is_some e) in absurd (omega arith)

      new : verdict_bind m bodies ss h v ≡ None → Good (set ss h (Some v))
      new e k =
          let t = bind_taken (length ss) (owed_at ss h) h v e in
          elim (cases_eq k h) [
            | inl same ↦ subst (λ j. Spelt m (get_or bodies j 0) (values_on (set ss h (Some v)) j)) (sym same) (subst (λ x. Spelt m (get_or bodies h 0) (value_or_none x)) (sym (get_or-set_same ss h (Some v) None t.0)) (spelt t.1))
            | inr ne ↦ good_elsewhere ss h (Some v) k ne g
          ]

  good_released : (ss : Slate) (h : ℕ) → Good ss → Good (released ss h)
  good_released ss h g = keeps Good (verdict_release ss h) (set ss h None) ss new g
    where
      new : verdict_release ss h ≡ None → Good (set ss h None)
      new e k =
          elim (cases_eq k h) [
            | inl same ↦ subst (λ j. Spelt m (get_or bodies j 0) (values_on (set ss h None) j)) (sym same) (subst (λ x. Spelt m (get_or bodies h 0) (value_or_none x)) (sym (none_set ss h)) (spelt_none m (get_or bodies h 0)))
            | inr ne ↦ good_elsewhere ss h None k ne g
          ]

  good_next : (ss : Slate) (o : Order) → Good ss → Good (next m bodies ss o)
  good_next ss (bind h v) g = good_bound ss h v g
  good_next ss (release h) g = good_released ss h g
  good_next ss owed g = g

  good_final : (ss : Slate) (os : List Order) → Good ss → Good (final m bodies ss os)
  good_final ss [] g = g
  good_final ss (o ∷ os) g = good_final (next m bodies ss o) os (good_next ss o g)

  pub good : (n : ℕ) (os : List Order) → Good (final m bodies (fresh n) os)
  good n os = good_final (fresh n) os (good_fresh n)

  -- no line changes how many holes there are
  pub length_next : (ss : Slate) (o : Order) → length (next m bodies ss o) ≡ length ss
  length_next ss (bind h v) = keeps (λ ts. length ts ≡ length ss) (verdict_bind m bodies ss h v) (set ss h (Some v)) ss (λ e. length-set ss h (Some v)) refl
  length_next ss (release h) = keeps (λ ts. length ts ≡ length ss) (verdict_release ss h) (set ss h None) ss (λ e. length-set ss h None) refl
  length_next ss owed = refl

  length_final : (ss : Slate) (os : List Order) → length (final m bodies ss os) ≡ length ss
  length_final ss [] = refl
  length_final ss (o ∷ os) = length_final (next m bodies ss o) os ∙ length_next ss o

  pub as_many : (n : ℕ) (os : List Order) → length (final m bodies (fresh n) os) ≡ n
  as_many n os = length_final (fresh n) os ∙ length-replicate n None

  -- the answer to one line
  pub answer_at : (ss : Slate) (os : List Order) (i : ℕ) (d : Reply) → i < length os → get_or (answers m bodies ss os) i d ≡ answer m bodies (final m bodies ss (take i os)) (get_or os i owed)
  answer_at ss [] i d h = absurd (omega arith)
  answer_at ss (o ∷ os) zero d h = refl
  answer_at ss (o ∷ os) (suc i) d h = answer_at (next m bodies ss o) os i d (le_of_suc-le-suc h)

-- a hole that is owed is there
pub owed_within : (ss : Slate) (k : ℕ) → owed_at ss k ≡ true → k < length ss
owed_within [] k e = absurd (false≢true e)
owed_within (s ∷ ss) zero e = omega arith
owed_within (s ∷ ss) (suc k) e = suc-le-suc (owed_within ss k e)

-- the lowest owed hole is there just when some hole is owed
lowest_owed : (ss : Slate) → is_some (lowest ss) ≡ true → Owes ss
lowest_owed [] e = absurd (false≢true e)
lowest_owed (None ∷ ss) e = (0, omega arith, refl)
lowest_owed (Some v ∷ ss) e = let r = lowest_owed ss (grind arith) in (suc r.0, suc-le-suc r.1, r.2)

owed_lowest : (ss : Slate) (k : ℕ) → k < length ss → owed_at ss k ≡ true → is_some (lowest ss) ≡ true
owed_lowest [] k h e = absurd (false≢true e)
owed_lowest (None ∷ ss) k h e = refl
owed_lowest (Some v ∷ ss) zero h e = absurd (false≢true e)
owed_lowest (Some v ∷ ss) (suc k) h e = let more = owed_lowest ss k (le_of_suc-le-suc h) e in grind arith

pub finish_owes : (n : ℕ) (ss : Slate) → IsRefused (judge_finish_lem n (lowest ss)) → Owes ss
finish_owes n ss r = lowest_owed ss (grind arith)

pub owes_finish : (n : ℕ) (ss : Slate) → Owes ss → IsRefused (judge_finish_lem n (lowest ss))
owes_finish n ss o = let some = owed_lowest ss o.0 o.1 o.2 in grind arith

-- and the hole that a finish names is the lowest
lowest_is : (ss : Slate) (k : ℕ) → lowest ss ≡ Some k → LowestOwed ss k
lowest_is [] k e = absurd (no_value (sym e))
lowest_is (None ∷ ss) k e = subst (LowestOwed (None ∷ ss)) (the_same e) (record { is_owed = refl; none_before = λ j h. absurd (omega arith) })
lowest_is (Some v ∷ ss) k e =
    let r = unmapped (lowest ss) e in
    let low = lowest_is ss r.0 r.1 in
    subst (LowestOwed (Some v ∷ ss)) r.2 (record { is_owed = low.is_owed; none_before = before r.0 low })
  where
    unmapped : (o : Option ℕ) → option_map suc o ≡ Some k → (j : ℕ) × (o ≡ Some j) × (suc j ≡ k)
    unmapped None f = absurd (no_value (sym f))
    unmapped (Some j) f = (j, refl, the_same f)

    before : (i : ℕ) → LowestOwed ss i → (j : ℕ) → j < suc i → owed_at (Some v ∷ ss) j ≡ false
    before i low zero h = refl
    before i low (suc j) h = low.none_before j (le_of_suc-le-suc h)

pub finish_names : (n : ℕ) (ss : Slate) (r : Refusal) → judge_finish_lem n (lowest ss) ≡ Err r → (k : ℕ) × (r ≡ of_hole 15 k 0) × LowestOwed ss k
finish_names n ss r = go (lowest ss) refl
  where
    go : (o : Option ℕ) → lowest ss ≡ o → judge_finish_lem n o ≡ Err r → (k : ℕ) × (r ≡ of_hole 15 k 0) × LowestOwed ss k
    go None q f = absurd (let z : ◌≡◌ {A = ℕ} 0 1 = cc in omega arith)
    go (Some k) q f = (k, grind arith, lowest_is ss k q)

pub finish_counts : (n k : ℕ) (ss : Slate) → judge_finish_lem n (lowest ss) ≡ Ok k → k ≡ n
finish_counts n k ss e = grind arith
