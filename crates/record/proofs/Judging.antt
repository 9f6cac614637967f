-- Pairs that are judged before they are written. Assumes nothing.
use Rattle.std.proofs.Common.{◌≡◌, ℕ, ◌+◌, ◌<◌, ◌≤◌, true, false, ◌||◌, List, [], ◌∷◌, ◌++◌, length, get_or, take, drop, Some, None, Ok, Err, All, Option, sym, refl, ap, ◌∙◌, subst, ⊎_elim, append_assoc, append-nil, arith}
use Rattle.std.specs.Str.{bytes_eq}
use Rattle.std.specs.List.{list_any}
use Rattle.std.proofs.lemmas.List.{at_drop_more, get_or-map, length_push, length-map, length-append}
use Rattle.std.proofs.lemmas.List.Elements.{All-nil, All-cons, All-head, All-tail, All-push, All-get_or}
use Rattle.std.proofs.lemmas.Slice.Eq.{bytes_eq-Decides}
use Rattle.std.proofs.lemmas.Bool.{cases_Bool, or_from, or_parts}
use Rattle.std.proofs.lemmas.Bool.Decides.{nat_tests, not_from_Decides}
use Rattle.fault.specs.Refusal.{Refusal}
use Rattle.record.specs.declared.writer.Pair.{Pair as Lent}
use Rattle.record.specs.Names.{good_name}
use Rattle.record.specs.Format.{Pair, field, packed, Distinct, GoodPair}
use Rattle.record.specs.Reading.{named}
use Rattle.record.specs.Writing.{pair_in, pairs_in, after_pair, wrong_pair, or_else, refused_from, verdict}
use Rattle.record.specs.Law.{RefusedOrGood}
use Rattle.record.proofs.Fields.{good_short}

-- whether some pair that is lent has the name
pub named_in : (wanted : List ℕ) (ls : List Lent) → named wanted (pairs_in ls) ≡ list_any (λ l. bytes_eq l.name.now wanted) ls
named_in wanted [] = refl
named_in wanted (l ∷ ls) = ap (λ b. bytes_eq l.name.now wanted || b) (named_in wanted ls)

-- what a verdict was
pub verdict_ok : (w : Option Refusal) (e n : ℕ) → Ok n ≡ verdict w e → (w ≡ None) × (n ≡ e)
verdict_ok None e n h = (refl, cc)
verdict_ok (Some r) e n h = cc

-- the first pair at fault decides
pub first_wrong : (ls : List Lent) (i at e n : ℕ) (d : Lent) (r : Refusal) (whole : Option Refusal) → i < length ls → refused_from (pairs_in (take i ls)) at (pairs_in (drop i ls)) ≡ whole → Err r ≡ verdict (wrong_pair (pairs_in (take i ls)) at (pair_in (get_or ls i d))) e → Err r ≡ verdict whole n
first_wrong ls i at e n d r whole h left judged = go (wrong_pair (pairs_in (take i ls)) at (pair_in (get_or ls i d))) judged (ap (refused_from (pairs_in (take i ls)) at) (sym (at_drop_more pairs_in ls i d h)) ∙ left)
  where
    go : (w : Option Refusal) → Err r ≡ verdict w e → or_else w (refused_from (pairs_in (take i ls) ++ pair_in (get_or ls i d) ∷ []) (after_pair at (pair_in (get_or ls i d))) (pairs_in (drop (i + 1) ls))) ≡ whole → Err r ≡ verdict whole n
    go None judged left = cc
    go (Some s) judged left = rw (← left) judged

-- the length of a packed record, pair by pair
pub packed_more : (q : Pair) (qs : List Pair) → length (packed (q ∷ qs)) ≡ 3 + length q.0 + (3 + length q.1) + length (packed qs)
packed_more q qs = omega (arith, length-append q.0 (field 2 q.1 ++ packed qs), length-append q.1 (packed qs))

-- what is so of a pair that is not refused
pair_parts : (ps : List Pair) (p : ℕ) (q : Pair) → wrong_pair ps p q ≡ None → (good_name q.0 ≡ true) × (length ps < 64) × (named q.0 ps ≡ false) × (length q.1 ≤ 160)
pair_parts ps p q h = (grind (arith, nat_tests), grind (arith, nat_tests), grind (arith, nat_tests), grind (arith, nat_tests))

-- and such a pair is not refused
right_pair : (ps : List Pair) (p : ℕ) (q : Pair) → good_name q.0 ≡ true → length ps < 64 → named q.0 ps ≡ false → length q.1 ≤ 160 → wrong_pair ps p q ≡ None
right_pair ps p q good few new short = grind (arith, nat_tests)

or_none : (w more : Option Refusal) → or_else w more ≡ None → (w ≡ None) × (more ≡ None)
or_none None more h = (refl, h)
or_none (Some r) more h = cc

all_mid : {X : Type 0} (P : X → Type 0) (xs : List X) (y : X) (ys : List X) → All P (xs ++ y ∷ ys) → P y
all_mid P [] y ys h = All-head P y ys h
all_mid P (x ∷ xs) y ys h = all_mid P xs y ys (All-tail P x (xs ++ y ∷ ys) h)

-- a name that comes later is not among the earlier ones
distinct_new : (ps : List Pair) (q : Pair) (qs : List Pair) → Distinct (ps ++ q ∷ qs) → named q.0 ps ≡ false
distinct_new [] q qs d = refl
distinct_new (p ∷ ps) q qs d =
    let apart = all_mid (λ x. p.0 ≡ x.0 → ⊥) ps q qs d.0 in
    or_from _ _ (⊎_elim (λ (t : bytes_eq p.0 q.0 ≡ true). absurd (apart ((bytes_eq-Decides p.0 q.0).0 t))) (λ f. f) (cases_Bool (bytes_eq p.0 q.0))) (distinct_new ps q qs d.1)

-- and one that is not keeps them distinct
pub distinct_push : (ps : List Pair) (q : Pair) → Distinct ps → named q.0 ps ≡ false → Distinct (ps ++ q ∷ [])
distinct_push [] q d e = (All-nil (λ x. q.0 ≡ x.0 → ⊥), tt)
distinct_push (p ∷ ps) q d e =
    let parts = or_parts (bytes_eq p.0 q.0) (named q.0 ps) e in
    (All-push (λ x. p.0 ≡ x.0 → ⊥) ps q d.0 (not_from_Decides _ (bytes_eq-Decides p.0 q.0) parts.0), distinct_push ps q d.1 parts.1)

-- pairs that are not refused are good
sound : (qs ps : List Pair) (p : ℕ) → length ps ≤ 64 → Distinct ps → refused_from ps p qs ≡ None → (length ps + length qs ≤ 64) × All GoodPair qs × Distinct (ps ++ qs)
sound [] ps p few d h = (omega arith, All-nil GoodPair, subst Distinct (sym (append-nil ps)) d)
sound (q ∷ qs) ps p few d h =
    let both = or_none (wrong_pair ps p q) (refused_from (ps ++ q ∷ []) (after_pair p q) qs) h in
    let is = pair_parts ps p q both.0 in
    let pushed = length_push ps q in
    let rest = sound qs (ps ++ q ∷ []) (after_pair p q) (omega arith) (distinct_push ps q d is.2) both.1 in
    (omega (arith, rest.0), All-cons GoodPair q qs (is.0, is.3) rest.1, subst Distinct (append_assoc ps (q ∷ []) qs) rest.2)

-- and good ones are not refused
complete : (qs ps : List Pair) (p : ℕ) → length ps + length qs ≤ 64 → All GoodPair qs → Distinct (ps ++ qs) → refused_from ps p qs ≡ None
complete [] ps p few good d = refl
complete (q ∷ qs) ps p few good d =
    let first = All-head GoodPair q qs good in
    let here = right_pair ps p q first.0 (omega arith) (distinct_new ps q qs d) first.1 in
    let pushed = length_push ps q in
    rw here (complete qs (ps ++ q ∷ []) (after_pair p q) (omega arith) (All-tail GoodPair q qs good) (subst Distinct (sym (append_assoc ps (q ∷ []) qs)) d))

pub refused_or_good_lem : RefusedOrGood
refused_or_good_lem p qs = record {
  good = λ h. let is = sound qs [] p (omega arith) tt h in record { few = omega (arith, is.0); pairs = is.1; distinct = is.2 };
  taken = λ g. complete qs [] p (omega (arith, g.few)) g.pairs g.distinct;
}

-- the length of each part of a good record fits two bytes
pub short_parts : (ls : List Lent) (i : ℕ) (d : Lent) → i < length ls → All GoodPair (pairs_in ls) → (length (get_or ls i d).name.now < 65536) × (length (get_or ls i d).value.now < 65536)
short_parts ls i d h good =
    let inner : i < length (pairs_in ls) = omega (arith, length-map ls pair_in) in
    let is = subst GoodPair (get_or-map pair_in ls i d (pair_in d) h) (All-get_or GoodPair (pairs_in ls) i (pair_in d) inner good) in
    let name = good_short (get_or ls i d).name.now is.0 in
    let value = is.1 in
    (omega arith, omega arith)
