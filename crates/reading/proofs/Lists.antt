-- What a walk over a text measures and writes comes to the listing of the reading. Assumes nothing.
use Rattle.std.proofs.Common.{◌≡◌, ℕ, suc, ◌+◌, ◌<◌, ◌≤◌, List, [], ◌∷◌, ◌++◌, length, drop, Some, None, Ok, Err, Option, Result, sym, refl, ap, ◌∙◌, subst, append_assoc, append-nil, add-zero, zero-add, arith}
use Rattle.std.proofs.lemmas.List.{length-append, length_push, nil_from_length}
use Rattle.std.proofs.lemmas.Bool.Decides.{nat_tests}
use Rattle.host.specs.declared.effect.Effect.{Effect}
use Rattle.host.specs.declared.effect.Middle.{Middle}
use Rattle.host.specs.declared.effect.Middle.TheVariants.{Nothing, Open, Keep}
use Rattle.host.specs.Meaning.{Meaning, Sound, chain}
use Rattle.host.specs.Run.{Symbol, byte, mark, Token, State, start, opened, close, do_middle, apply, enter, read_bytes, read_end, reading}
use Rattle.host.proofs.Chains.{inside}
use Rattle.fault.specs.declared.fault.Fault.{Fault}
use Rattle.reading.specs.declared.cursor.Cursor.{Cursor}
use Rattle.fault.specs.Refusal.{Refusal, refusal_of, told, plain}
use Rattle.reading.specs.Listing.{bytes_of, field, fields, by_step, read_before, listing}
use Rattle.reading.specs.Cursors.{close_cursor, keep_cursor, after_cursor, write_close, write_middle, write_effect}
use Rattle.reading.specs.Passes.{origin, measure_step, measured, written}
use Rattle.reading.proofs.Reach.{reach, OpenHeld, after_reach, open_more, end_empty}
use Rattle.reading.proofs.Layouts.{lay, lay_empty, lay_head, lay_byte}

fields_append : (ts us : List Token) → fields (ts ++ us) ≡ fields ts ++ fields us
fields_append [] us = refl
fields_append (t ∷ ts) us = simp (fields_append ts us, append_assoc)

pub bytes_append : (xs ys : List Symbol) → bytes_of (xs ++ ys) ≡ bytes_of xs ++ bytes_of ys
bytes_append [] ys = refl
bytes_append (byte b ∷ xs) ys = rw (bytes_append xs ys)
bytes_append (mark k ∷ xs) ys = bytes_append xs ys

-- the bytes of the open token, and the cursor of a state
abbrev holding : State → List ℕ
holding s = bytes_of (opened s.current)

abbrev pub cursor_of : State → Cursor
cursor_of s = record { at = length (fields s.closed); held = length (holding s) }

fields_close : (k : ℕ) (s : State) → fields (close (Some k) s).closed ≡ fields s.closed ++ field k (holding s)
fields_close k s = simp (fields_append, append-nil)

-- marks follow states
cursor_close : (o : Option ℕ) (s : State) → cursor_of (close o s) ≡ close_cursor o (cursor_of s)
cursor_close None s = refl
cursor_close (Some k) s =
    let at : length (fields (close (Some k) s).closed) ≡ length (fields s.closed) + (3 + length (holding s)) = simp (fields_close, length-append) (omega arith) in
    cc

cursor_middle : (d : Middle) (s : State) → cursor_of (do_middle d s) ≡ keep_cursor d (cursor_of s)
cursor_middle Nothing s = refl
cursor_middle Open s = simp append-nil
cursor_middle (Keep b) s = simp (bytes_append, length_push)

cursor_apply : (e : Effect) (s : State) → cursor_of (apply e s) ≡ after_cursor e (cursor_of s)
cursor_apply e s = grind (arith, cursor_close, cursor_middle)

-- what is measured
abbrev pub sized : Option (List Token) → ℕ → Result ℕ Refusal
sized None p = Err (plain 19 p)
sized (Some ts) p = Ok (length (fields ts))

module _ (m : Meaning) where
  measure_is : (bs : List ℕ) (s : State) (p : ℕ) → told (measured m bs s.context (cursor_of s) p) ≡ sized (chain (read_bytes m bs s) (read_end m)) (p + read_before m bs s)
  measure_is [] s p = grind (arith, cursor_apply)
  measure_is (b ∷ bs) s p = go (measure_is bs) (m.step s.context b)
    where
      go : ((s : State) (p : ℕ) → told (measured m bs s.context (cursor_of s) p) ≡ sized (chain (read_bytes m bs s) (read_end m)) (p + read_before m bs s)) → (o : Option (ℕ × Effect)) → let t = chain o (λ r. Some (enter r.0 (apply r.1 s))) in told (measure_step o (cursor_of s) p (measured m bs)) ≡ sized (chain (chain t (read_bytes m bs)) (read_end m)) (p + by_step t (read_before m bs))
      go recur None = simp add-zero
      go recur (Some r) =
          let t = enter r.0 (apply r.1 s) in
          let place : p + 1 + read_before m bs t ≡ p + suc (read_before m bs t) = omega arith in
          rw (← cursor_apply r.1 s, ← place) (recur t (p + 1))

  pub measures_reading : (bs : List ℕ) → told (measured m bs 0 origin 0) ≡ sized (reading m bs) (read_before m bs start)
  measures_reading bs = let e = measure_is bs start 0 in simp zero-add at e

-- what is written
abbrev layout : List ℕ → State → List ℕ
layout old s = lay old (fields s.closed) (holding s)

module _ (old : List ℕ) where
  lay_close : (o : Option ℕ) (s : State) → reach (close_cursor o (cursor_of s)) ≤ length old → write_close o (cursor_of s) (layout old s) ≡ layout old (close o s)
  lay_close None s fits = refl
  lay_close (Some k) s fits = rw (fields_close k s) (lay_head old (fields s.closed) (holding s) k (omega arith))

  lay_middle : (d : Middle) (s : State) → reach (keep_cursor d (cursor_of s)) ≤ length old → write_middle d (cursor_of s) (layout old s) ≡ layout old (do_middle d s)
  lay_middle Nothing s fits = refl
  lay_middle Open s fits = simp append-nil
  lay_middle (Keep b) s fits = rw (bytes_append (opened s.current) (byte b ∷ [])) (lay_byte old (fields s.closed) (holding s) b (omega arith))

  lay_effect : (e : Effect) (s : State) → reach (after_cursor e (cursor_of s)) ≤ length old → write_effect e (cursor_of s) (layout old s) ≡ layout old (apply e s)
  lay_effect e s fits = grind (arith, lay_close, lay_middle, cursor_close, cursor_middle)

  module _ (m : Meaning) (sound : Sound m) where
    -- a text that is read on to these tokens: what is written so far lies in their fields, and the rest comes to them
    record Writes (bs : List ℕ) (s : State) (ts : List Token) : Type 0 where
      within : reach (cursor_of s) ≤ length (fields ts)
      comes : length (fields ts) ≤ length old → written m bs s.context (cursor_of s) (layout old s) ≡ fields ts ++ drop (length (fields ts)) old

    writes : (bs : List ℕ) (s : State) (ts : List Token) → OpenHeld m s.context (cursor_of s) → chain (read_bytes m bs s) (read_end m) ≡ Some ts → Writes bs s ts
    writes [] s ts h c = go (m.end s.context) refl c
      where
        go : (o : Option Effect) → o ≡ m.end s.context → chain o (λ e. Some (apply e s).closed) ≡ Some ts → Writes [] s ts
        go None q c = cc
        go (Some e) q c =
            let up = after_reach e (cursor_of s) in
            let none = end_empty m sound s.context (cursor_of s) e q h in
            let moved = cursor_apply e s in
            let is : (apply e s).closed ≡ ts = inside c in
            let long : (after_cursor e (cursor_of s)).at ≡ length (fields ts) = cc in
            let empty : holding (apply e s) ≡ [] = nil_from_length (holding (apply e s)) (cc) in
            record { within = omega arith; comes = λ fits. rw (← q, lay_effect e s (omega arith), is, empty, lay_empty old (fields ts)) }
    writes (b ∷ bs) s ts h c = go (writes bs) (m.step s.context b) refl c
      where
        go : ((s : State) (ts : List Token) → OpenHeld m s.context (cursor_of s) → chain (read_bytes m bs s) (read_end m) ≡ Some ts → Writes bs s ts) → (o : Option (ℕ × Effect)) → o ≡ m.step s.context b → chain (chain (chain o (λ r. Some (enter r.0 (apply r.1 s)))) (read_bytes m bs)) (read_end m) ≡ Some ts → Writes (b ∷ bs) s ts
        go recur None q c = cc
        go recur (Some r) q c =
            let up = after_reach r.1 (cursor_of s) in
            let moved = cursor_apply r.1 s in
            let rest = recur (enter r.0 (apply r.1 s)) ts (subst (OpenHeld m r.0) (sym moved) (open_more m sound s.context b (cursor_of s) r q h)) c in
            let within : reach (after_cursor r.1 (cursor_of s)) ≤ length (fields ts) = subst (λ k. reach k ≤ length (fields ts)) moved rest.within in
            record { within = omega arith; comes = λ fits. rw (← q, ← moved, lay_effect r.1 s (omega arith)) (rest.comes fits) }

    pub writes_reading : (bs : List ℕ) (ts : List Token) → reading m bs ≡ Some ts → length (fields ts) ≤ length old → written m bs 0 origin old ≡ fields ts ++ drop (length (fields ts)) old
    writes_reading bs ts e fits = ap (written m bs 0 origin) (sym (lay_empty old [])) ∙ (writes bs start ts (λ lt. absurd (omega arith)) e).comes fits

-- what is measured tells the listing of a text that is not too long
module _ (m : Meaning) (text out : List ℕ) (few : length text ≤ 65534) where
  pub listing_refused : (f : Fault) → measured m text 0 origin 0 ≡ Err f → listing m text (length out) ≡ Err (refusal_of f)
  listing_refused f e = let r = measures_reading m text in grind (arith, nat_tests)

  pub listing_unfit : (needed : ℕ) → measured m text 0 origin 0 ≡ Ok needed → length out < needed → listing m text (length out) ≡ Err (plain 17 needed)
  listing_unfit needed e lt = let r = measures_reading m text in grind (arith, nat_tests)

  -- the fields of the tokens that are read, where there is room for them
  pub record Listed (needed : ℕ) : Type 0 where
    pub tokens : List Token
    pub listed : listing m text (length out) ≡ Ok (fields tokens)
    pub long : length (fields tokens) ≡ needed
    pub comes : written m text 0 origin out ≡ fields tokens ++ drop (length (fields tokens)) out

  pub listing_fits : Sound m → (needed : ℕ) → measured m text 0 origin 0 ≡ Ok needed → needed ≤ length out → Listed needed
  listing_fits sound needed e le = go (reading m text) refl
    where
      go : (o : Option (List Token)) → reading m text ≡ o → Listed needed
      go None is = let r = measures_reading m text in cc
      go (Some ts) is =
          let r = measures_reading m text in
          let long : length (fields ts) ≡ needed = cc in
          record { tokens = ts; listed = grind (arith, nat_tests); long = long; comes = writes_reading out m sound text ts is (omega arith) }
