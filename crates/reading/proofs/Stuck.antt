-- A text without a reading is read up to the place that is told, and no further.
use Rattle.std.proofs.Common.{◌≡◌, ℕ, List, [], ◌∷◌, Some, None, Option, refl, arith}
use Rattle.host.specs.Meaning.{Meaning, chain}
use Rattle.host.specs.Run.{State, start, enter, apply, read_byte, read_bytes, read_end}
use Rattle.reading.specs.Listing.{by_step, read_before, RefusedAt, RefusedRightly}

-- where an answer is made of another, there is none only if there is none to make it of
none_of : {A B : Type 0} (f : A → B) (o : Option A) → chain o (λ x. Some (f x)) ≡ None → o ≡ None
none_of f None e = refl
none_of f (Some x) e = cc

refused : (m : Meaning) (bs : List ℕ) (s : State) → chain (read_bytes m bs s) (read_end m) ≡ None → RefusedAt m s bs (read_before m bs s)
refused m [] s e = record { within = omega arith; reached = s; before = refl; here = none_of (λ x. (apply x s).closed) (m.end s.context) e }
refused m (b ∷ bs) s e = go (λ t f. refused m bs t f) (read_byte m b s) refl e
  where
    go : ((t : State) → chain (read_bytes m bs t) (read_end m) ≡ None → RefusedAt m t bs (read_before m bs t)) → (o : Option State) → read_byte m b s ≡ o → chain (chain o (read_bytes m bs)) (read_end m) ≡ None → RefusedAt m s (b ∷ bs) (by_step o (read_before m bs))
    go after None is f = record { within = omega arith; reached = s; before = refl; here = none_of (λ r. enter r.0 (apply r.1 s)) (m.step s.context b) is }
    go after (Some t) is f =
        let r = after t f in
        record { within = omega (arith, r.within); reached = r.reached; before = rw is r.before; here = r.here }

pub refused_rightly : (m : Meaning) (bs : List ℕ) → RefusedRightly m bs
refused_rightly m bs e = refused m bs start e
