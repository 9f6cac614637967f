-- A bind to an owed hole: when it is refused, and with which byte.
use Rattle.std.proofs.Common.{◌≡◌, ℕ, ◌<◌, ◌≤◌, true, false, List, length, get_or, is_some, IfSome, Some, None, Option, refl, ap, arith}
use Rattle.std.specs.List.{prefix_len}
use Rattle.std.proofs.lemmas.Bool.{false≢true, true≢false}
use Rattle.std.proofs.lemmas.List.Sums.{prefix_len_passes, prefix_len_stops}
use Rattle.host.specs.Meaning.{Meaning, Sound, Body, Conveys, NeverConveyed}
use Rattle.host.proofs.Refusal.{refusal_exact_lem}
use Rattle.fault.specs.Refusal.{Refusal, of_hole}
use Rattle.printer.specs.Slate.{Slate, owed_at, spells, judge_bytes, verdict_bind}
use Rattle.worklist.specs.Lines.{refused, reply}
use Rattle.worklist.specs.Promise.{RefusedLine, Conveyable}
use Rattle.worklist.proofs.Slates.{leading_within, owed_within}

-- an owed hole and a short value are judged by the value's bytes
pub by_bytes : (m : Meaning) (bodies : List ℕ) (ss : Slate) (h : ℕ) (v : List ℕ) → owed_at ss h ≡ true → length v ≤ 160 → verdict_bind m bodies ss h v ≡ judge_bytes m h (get_or bodies h 0) v
by_bytes m bodies ss h v is_owed short =
    let within = owed_within ss h is_owed in grind arith

unspelt : (o : Option (List ℕ)) → is_some o ≡ false → o ≡ None
unspelt None e = refl
unspelt (Some s) e = absurd (true≢false e)

-- the bytes of a value in a body
module _ (m : Meaning) (sound : Sound m) (c : ℕ) (body : Body m c) (h : ℕ) (v : List ℕ) where
  pub refused_never : RefusedLine (reply (judge_bytes m h c v)) → (j : ℕ) × (j < length v) × NeverConveyed m c (get_or v j 0)
  refused_never r =
      let k = prefix_len (spells m c) v in
      let lt : k < length v = grind arith in
      (k, lt, (refusal_exact_lem m sound c (get_or v k 0) body).0 (unspelt (m.spelling c (get_or v k 0)) (prefix_len_stops (spells m c) v 0 lt)))

  pub never_refused : (j : ℕ) → j < length v → NeverConveyed m c (get_or v j 0) → RefusedLine (reply (judge_bytes m h c v))
  never_refused j lt never =
      let k = prefix_len (spells m c) v in
      let none = (refusal_exact_lem m sound c (get_or v j 0) body).1 never in
      let within = leading_within (spells m c) v j lt (ap is_some none) in grind arith

  -- a byte that is spelt is conveyed by its spelling
  conveyed : (b : ℕ) → spells m c b ≡ true → Conveyable m c b
  conveyed b e = go (m.spelling c b) e (sound.shape.spelling_short c b) (sound.conveys c b body)
    where
      go : (o : Option (List ℕ)) → is_some o ≡ true → IfSome o (λ s. (1 ≤ length s) × (length s ≤ 6)) → IfSome o (Conveys m c b) → Conveyable m c b
      go None q short conveys = absurd (false≢true q)
      go (Some s) q short conveys = (s, short.0, short.1, conveys)

  pub first_unspelt : (e : Refusal) → reply (judge_bytes m h c v) ≡ refused e → (i : ℕ) × (e ≡ of_hole 13 h i) × (i < length v) × NeverConveyed m c (get_or v i 0) × ((j : ℕ) → j < i → Conveyable m c (get_or v j 0))
  first_unspelt e q =
      let k = prefix_len (spells m c) v in
      let lt : k < length v = grind arith in
      (k, grind arith, lt, (refusal_exact_lem m sound c (get_or v k 0) body).0 (unspelt (m.spelling c (get_or v k 0)) (prefix_len_stops (spells m c) v 0 lt)), λ j less. conveyed (get_or v j 0) (prefix_len_passes (spells m c) v j 0 less))
