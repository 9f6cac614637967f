-- Why a template is refused and where, in the words of the notation and of runs.
use Rattle.std.specs.Prelude.{◌≡◌, ℕ, ◌+◌, ◌<◌, ◌≤◌, true, false, List, [], ◌∷◌, ◌++◌, map, length, take, drop, Some, None, ◌≢◌}
use Rattle.host.specs.Meaning.{Meaning}
use Rattle.host.specs.Run.{literal, State, start, run}
use Rattle.fault.specs.Refusal.{Report, report}
use Rattle.template.specs.Notation.{goes_on, name_from, Escape, sign, Piece, named, written, proper, item}
use Rattle.template.specs.Law.{holes_of, Written}

-- What stands before place p: the written form of pieces with at most 64 holes, which the host runs without refusal.
pub record Before (m : Meaning) (t : List ℕ) (p : ℕ) : Type 0 where
  pub within : p ≤ length t
  pub pieces : List Piece
  pub notation : Written (take p t) pieces
  pub few : holes_of pieces ≤ 64
  pub state : State
  pub ran : run m (map item pieces) 0 start ≡ Some state

-- A piece stands at place p.
pub record Stands (t : List ℕ) (p : ℕ) (pc : Piece) : Type 0 where
  pub well : proper pc
  pub rest : List ℕ
  pub reads : drop p t ≡ written pc ++ rest

-- The first faulty item, and the report that it gets.
pub data Faulty (m : Meaning) (t : List ℕ) : Report → Type 0 where
  -- 2: an at-sign at the end,
  last_sign : (p : ℕ) → Before m t p → drop p t ≡ 64 ∷ [] → Faulty m t (report 2 p)
  -- or before a byte that chooses no item
  stray_sign : (p b : ℕ) (rest : List ℕ) → Before m t p → drop p t ≡ 64 ∷ b ∷ rest → ((e : Escape) → b ≢ sign e) → (b ≢ 123) → Faulty m t (report 2 p)
  -- 3: the template ends in a hole's name n, which may be empty,
  open_name : (p : ℕ) (n : List ℕ) → Before m t p → name_from 0 n ≡ true → drop p t ≡ 64 ∷ 123 ∷ n → Faulty m t (report 3 (length t))
  -- or a byte follows n that neither continues nor closes it
  broken_name : (p : ℕ) (n : List ℕ) (b : ℕ) (rest : List ℕ) → Before m t p → name_from 0 n ≡ true → drop p t ≡ 64 ∷ 123 ∷ (n ++ (b ∷ rest)) → goes_on (length n) b ≡ false → (1 ≤ length n → b ≢ 125) → Faulty m t (report 3 (p + 2 + length n))
  -- 5: the 65th hole
  many_holes : (p : ℕ) (n : List ℕ) (w : Before m t p) → Stands t p (named n) → holes_of w.pieces ≡ 64 → Faulty m t (report 5 p)
  -- 6: a literal that the host refuses
  no_literal : (p : ℕ) (pc : Piece) (b : ℕ) (w : Before m t p) → Stands t p pc → item pc ≡ literal b → m.step w.state.context b ≡ None → Faulty m t (report 6 p)
  -- 7: a hole in a context that takes none
  no_hole : (p : ℕ) (n : List ℕ) (w : Before m t p) → Stands t p (named n) → holes_of w.pieces < 64 → m.recipe w.state.context ≡ None → Faulty m t (report 7 p)
  -- 8: the host refuses the end
  no_end : (w : Before m t (length t)) → m.end w.state.context ≡ None → Faulty m t (report 8 (length t))

-- Over-long first, then the first faulty item from the left.
pub data RefusedWith (m : Meaning) (t : List ℕ) (r : Report) : Type 0 where
  over_long : 3584 < length t → r ≡ report 1 3584 → RefusedWith m t r
  at_fault : length t ≤ 3584 → Faulty m t r → RefusedWith m t r
