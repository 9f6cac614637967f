-- How far what is written at a cursor reaches: no further than what is measured. Assumes nothing.
use Rattle.std.proofs.Common.{◌≡◌, ℕ, ◌+◌, ◌*◌, ◌<◌, ◌≤◌, min, Bool, true, Some, arith}
use Rattle.host.specs.declared.effect.Effect.{Effect}
use Rattle.host.specs.Meaning.{Meaning, Sound, open_after}
use Rattle.reading.specs.declared.cursor.Cursor.{Cursor}
use Rattle.reading.specs.Cursors.{after_cursor}

-- the place after all that is written at a cursor: an open token with bytes has room for its head before them
abbrev pub reach : Cursor → ℕ
reach k = k.at + (k.held + min (3 * k.held) 3)

-- nothing that is written is taken back
pub after_reach : (e : Effect) (k : Cursor) → reach k ≤ reach (after_cursor e k)
after_reach e k = grind arith

-- a token that holds bytes is open
abbrev pub OpenHeld : Meaning → ℕ → Cursor → Type 0
OpenHeld m c k = 0 < k.held → m.is_open c ≡ true

after_open : (e : Effect) (k : Cursor) (b : Bool) → (0 < k.held → b ≡ true) → 0 < (after_cursor e k).held → open_after e b ≡ true
after_open e k b h lt = grind arith

module _ (m : Meaning) (sound : Sound m) where
  pub open_more : (c b : ℕ) (k : Cursor) (s : ℕ × Effect) → Some s ≡ m.step c b → OpenHeld m c k → OpenHeld m s.0 (after_cursor s.1 k)
  open_more c b k s e h lt =
      let marks = sound.step_marks c b in
      let after = after_open s.1 k (m.is_open c) h lt in
      grind arith

  -- at the end no token holds bytes
  pub end_empty : (c : ℕ) (k : Cursor) (e : Effect) → Some e ≡ m.end c → OpenHeld m c k → (after_cursor e k).held ≡ 0
  end_empty c k e q h =
      let shut = sound.end_shuts c in
      let after = after_open e k (m.is_open c) h in
      grind arith
