-- What is met of a template is what the run of its pieces meets.
use Rattle.std.proofs.Common.{◌≡◌, ℕ, ◌+◌, List, [], ◌∷◌, ◌++◌, map, length, Some, None, Option, sym, refl, ap, ◌∙◌, length-append}
use mathlib.Core.List.{map-append}
use Rattle.std.specs.List.{flat_map}
use Rattle.std.proofs.lemmas.List.{flat_map_more}
use Rattle.host.specs.Meaning.{Meaning, chain}
use Rattle.host.specs.Run.{start, run}
use Rattle.template.specs.Notation.{Piece, itself, escape, named, stands_for, written, item}
use Rattle.template.specs.Lexing.{Lexed, byte, hole, end, fault, lexed_from}
use Rattle.template.specs.Judging.{crossing, decide}
use Rattle.template.proofs.Pieces.{placed}
use Rattle.template.proofs.Plans.{over, place_of, visits, runs}
use Rattle.template.proofs.Prefixes.{visits_append}
use Rattle.outline.specs.declared.visit.Visit.{Visit}
use Rattle.outline.specs.Visits.{Sight, sight, literal, gap, met_at, sights, sight_of, Visited}
use Rattle.outline.proofs.Laid.{laid, written_laid}

-- from a context on, up to the first piece that is refused: the host steps over a literal and crosses a hole
abbrev pub visited_from : Meaning → Lexed → ℕ → List Sight
visited_from m (byte p b rest) c = sight p c (literal b) ∷ decide (m.step c b) [] (λ s. visited_from m rest s.0)
visited_from m (hole p n rest) c = sight p c (gap n p) ∷ decide (crossing m c) [] (λ x. visited_from m rest x.1)
visited_from m (end p) c = []
visited_from m (fault r) c = []

abbrev pub visited : Meaning → List ℕ → List Sight
visited m t = visited_from m (lexed_from t 0) 0

-- what is met after an answer, by what the answer says of it
met_over : {A B : Type 0} (f : A → B) (o : Option A) (g : B → List Sight) → decide (over f o) [] g ≡ decide o [] (λ x. g (f x))
met_over f None g = refl
met_over f (Some x) g = refl

met_chain : {A B : Type 0} (f : A → B) (o : Option A) (g : B → List Sight) → decide o [] (λ x. g (f x)) ≡ decide (chain o (λ x. Some (f x))) [] g
met_chain f None g = refl
met_chain f (Some x) g = refl

met_none : {A : Type 0} (o : Option A) → decide {B = List Sight} o [] (λ x. []) ≡ []
met_none None = refl
met_none (Some x) = refl

module _ (m : Meaning) where
  -- a piece is met, and then what stands after it, in the context that it leads to
  visited_placed : (pc : Piece) (p : ℕ) (rest : Lexed) (c : ℕ) → visited_from m (placed pc p rest) c ≡ sight p c (met_at p pc) ∷ decide (visits m (item pc ∷ []) c) [] (visited_from m rest)
  visited_placed (itself b) p rest c = ap (λ l. sight p c (literal b) ∷ l) (met_chain (λ s. s.0) (m.step c b) (visited_from m rest))
  visited_placed (escape e) p rest c = ap (λ l. sight p c (literal (stands_for e)) ∷ l) (met_chain (λ s. s.0) (m.step c (stands_for e)) (visited_from m rest))
  visited_placed (named n) p rest c = ap (λ l. sight p c (gap n p) ∷ l) (met_chain (λ x. x.1) (crossing m c) (visited_from m rest))

  visited_one : (pc : Piece) (p : ℕ) (rest : Lexed) (more : List Sight) (o : Option ℕ) → decide (chain o (visits m (item pc ∷ []))) [] (visited_from m rest) ≡ more → decide o [] (visited_from m (placed pc p rest)) ≡ decide o [] (λ c. sight p c (met_at p pc) ∷ more)
  visited_one pc p rest more None e = refl
  visited_one pc p rest more (Some c) e = visited_placed pc p rest c ∙ ap (λ l. sight p c (met_at p pc) ∷ l) e

  -- pieces after others, from the context that those lead to
  visited_laid : (ps before : List Piece) → decide (visits m (map item before) 0) [] (visited_from m (laid ps (length (flat_map written before)))) ≡ sights m before ps
  visited_laid [] before = met_none (visits m (map item before) 0)
  visited_laid (pc ∷ ps) before =
      let longer = before ++ (pc ∷ []) in
      let p = length (flat_map written before) in
      let way = visits m (map item before) 0 in
      let to : ℕ → List Sight = λ c. sight p c (met_at p pc) ∷ sights m longer ps in
      let there : p + length (written pc) ≡ length (flat_map written longer) = sym (length-append (flat_map written before) (written pc)) ∙ ap length (flat_map_more written [] before pc) in
      let further : chain way (visits m (item pc ∷ [])) ≡ visits m (map item longer) 0 = sym (visits_append m (map item before) (item pc ∷ []) 0) ∙ ap (λ is. visits m is 0) (sym (map-append item before (pc ∷ []))) in
      visited_one pc p (laid ps (p + length (written pc))) (sights m longer ps) way ((λ i. decide (further i) [] (visited_from m (laid ps (there i)))) ∙ visited_laid ps longer)
      ∙ ap (λ o. decide o [] to) (sym (runs m (map item before) 0 start))
      ∙ met_over place_of (run m (map item before) 0 start) to

  pub visited_sights : (t : List ℕ) (vs : List Visit) → map sight_of vs ≡ visited m t → Visited m t vs
  visited_sights t vs e ps w = e ∙ ap (λ l. visited_from m l 0) (written_laid t ps w) ∙ visited_laid ps []
