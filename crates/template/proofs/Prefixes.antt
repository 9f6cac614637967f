-- What stands before a place: what a host makes of it, and one piece more of it.
use Rattle.std.proofs.Common.{◌≡◌, ℕ, ◌+◌, ◌≤◌, List, [], ◌∷◌, ◌++◌, map, length, take, drop, Some, None, Option, sym, refl, ap, ◌∙◌, append_assoc, arith, length-append}
use mathlib.Core.List.{map-append}
use Rattle.std.specs.List.{flat_map, AllByRecursion}
use Rattle.std.proofs.lemmas.List.{take-append-drop, length-take-le, take_at, flat_map_more}
use Rattle.std.proofs.lemmas.List.Elements.{All-push, All-from_recursion, recursion_from_All}
use Rattle.host.specs.Meaning.{Meaning, chain}
use Rattle.host.proofs.Chains.{came}
use Rattle.host.specs.Run.{Item, literal, hole as gap, start, run}
use Rattle.template.specs.Notation.{Piece, itself, escape, named, written, proper, item}
use Rattle.template.specs.Law.{holes_of}
use Rattle.template.specs.Faulty.{Before, Stands}
use Rattle.template.specs.Lexing.{Lexed, byte, between_pieces, lex, lexed_from}
use Rattle.template.specs.Judging.{refused, crossing, decide, judge}
use Rattle.template.proofs.Judged.{hole_taken}
use Rattle.template.proofs.Pieces.{placed, read_piece}
use Rattle.template.proofs.Plans.{over, place_of, visits, runs}
use Rattle.template.proofs.Reading.{nothing, the_same, chain_some}
use Rattle.fault.specs.Refusal.{report}

holes_append : (ps qs : List Piece) → holes_of (ps ++ qs) ≡ holes_of ps + holes_of qs
holes_append [] qs = omega arith
holes_append (itself b ∷ ps) qs = holes_append ps qs
holes_append (escape e ∷ ps) qs = holes_append ps qs
holes_append (named n ∷ ps) qs = ap (λ k. k + 1) (holes_append ps qs) ∙ omega arith

module _ (m : Meaning) where
  pub visits_append : (is js : List Item) (c : ℕ) → visits m (is ++ js) c ≡ chain (visits m is c) (visits m js)
  visits_append [] js c = refl
  visits_append (literal b ∷ is) js c =
      elim (m.step c b) as (λ o. chain o (λ s. visits m (is ++ js) s.0) ≡ chain (chain o (λ s. visits m is s.0)) (visits m js)) [ None ↦ refl | Some s ↦ visits_append is js s.0 ]
  visits_append (gap ∷ is) js c =
      elim (crossing m c) as (λ o. chain o (λ x. visits m (is ++ js) x.1) ≡ chain (chain o (λ x. visits m is x.1)) (visits m js)) [ None ↦ refl | Some x ↦ visits_append is js x.1 ]

  -- a piece that the host runs is judged by what comes after it
  judge_literal : (b p : ℕ) (l : Lexed) (k c d : ℕ) (bodies : List ℕ) → visits m (literal b ∷ []) c ≡ Some d → judge m (byte p b l) k c bodies ≡ judge m l (0 + k) d bodies
  judge_literal b p l k c d bodies e =
      let s = chain_some (λ s. s.0) (m.step c b) d e in
      let count : k ≡ 0 + k = omega arith in
      ap (λ o. decide o (refused (report 6 p)) (λ s. judge m l k s.0 bodies)) s.1 ∙ (λ i. judge m l (count i) (s.2 i) bodies)

  judge_piece : (pc : Piece) (p : ℕ) (l : Lexed) (k c d : ℕ) (bodies : List ℕ) → holes_of (pc ∷ []) + k ≤ 64 → visits m (item pc ∷ []) c ≡ Some d → (after : List ℕ) × (judge m (placed pc p l) k c bodies ≡ judge m l (holes_of (pc ∷ []) + k) d after)
  judge_piece (itself b) p l k c d bodies few e = (bodies, judge_literal b p l k c d bodies e)
  judge_piece (escape x) p l k c d bodies few e = (bodies, judge_literal _ p l k c d bodies e)
  judge_piece (named n) p l k c d bodies few e =
      let x = chain_some (λ x. x.1) (crossing m c) d e in
      let count : k + 1 ≡ 0 + 1 + k = omega arith in
      let after = bodies ++ (x.0.0 ∷ []) in
      (after, hole_taken m p n l k c bodies x.0 (omega arith) x.1 ∙ (λ i. judge m l (count i) (x.2 i) after))

  judge_after : (ps : List Piece) → AllByRecursion proper ps → (rest : List ℕ) (p k c d : ℕ) (bodies : List ℕ) → holes_of ps + k ≤ 64 → visits m (map item ps) c ≡ Some d → (after : List ℕ) × (judge m (lex between_pieces p (flat_map written ps ++ rest)) k c bodies ≡ judge m (lex between_pieces (p + length (flat_map written ps)) rest) (holes_of ps + k) d after)
  judge_after [] ok rest p k c d bodies few e =
      let here : p ≡ p + 0 = omega arith in
      let count : k ≡ 0 + k = omega arith in
      (bodies, λ i. judge m (lex between_pieces (here i) rest) (count i) (the_same e i) bodies)
  judge_after (pc ∷ ps) ok rest p k c d bodies few e =
      let here = flat_map written ps ++ rest in
      let holes = holes_append (pc ∷ []) ps in
      let way = came (visits m (item pc ∷ []) c) (visits m (map item ps)) (sym (visits_append (item pc ∷ []) (map item ps) c) ∙ e) in
      let one = judge_piece pc p (lex between_pieces (p + length (written pc)) here) k c way.from bodies (omega (arith, holes)) way.first in
      let more = judge_after ps ok.1 rest (p + length (written pc)) (holes_of (pc ∷ []) + k) way.from d one.0 (omega (arith, holes)) way.rest in
      let there : p + length (written pc) + length (flat_map written ps) ≡ p + length (written pc ++ flat_map written ps) = omega (arith, length-append (written pc) (flat_map written ps)) in
      let count : holes_of ps + (holes_of (pc ∷ []) + k) ≡ holes_of (pc ∷ ps) + k = omega (arith, holes) in (
        more.0,
        ap (λ l. judge m (lex between_pieces p l) k c bodies) (append_assoc (written pc) (flat_map written ps) rest)
            ∙ ap (λ l. judge m l k c bodies) (read_piece pc ok.0 p here)
            ∙ one.1
            ∙ more.1
            ∙ (λ i. judge m (lex between_pieces (there i) rest) (count i) d more.0),
      )

over_some : {A B : Type 0} (f : A → B) (o : Option A) (y : B) → over f o ≡ Some y → (x : A) × (o ≡ Some x)
over_some f None y e = absurd (nothing e)
over_some f (Some x) y e = (x, refl)

module _ (m : Meaning) (t : List ℕ) (p : ℕ) where
  -- the context that the host is in at the place
  visited : (w : Before m t p) → visits m (map item w.pieces) 0 ≡ Some w.state.context
  visited w = sym (runs m (map item w.pieces) 0 start) ∙ ap (over place_of) w.ran

  pub judged_before : (w : Before m t p) → (after : List ℕ) × (judge m (lexed_from t 0) 0 0 [] ≡ judge m (lexed_from t p) (holes_of w.pieces) w.state.context after)
  judged_before w =
      let ps = w.pieces in
      let j = judge_after m ps w.notation.well (drop p t) 0 0 0 w.state.context [] (omega (arith, w.few)) (visited w) in
      let all : flat_map written ps ++ drop p t ≡ t = ap (λ l. l ++ drop p t) w.notation.spelled ∙ take-append-drop p t in
      let here : 0 + length (flat_map written ps) ≡ p = ap (λ l. 0 + length l) w.notation.spelled ∙ ap (λ k. 0 + k) (length-take-le p t w.within) ∙ omega arith in
      let count : holes_of ps + 0 ≡ holes_of ps = omega arith in
      (j.0, ap (λ l. judge m (lex between_pieces 0 l) 0 0 []) (sym all) ∙ j.1 ∙ (λ i. judge m (lex between_pieces (here i) (drop p t)) (count i) w.state.context j.0))

  -- the place after one piece more that the host runs
  pub further : (w : Before m t p) (pc : Piece) → Stands t p pc → holes_of w.pieces + holes_of (pc ∷ []) ≤ 64 → (d : ℕ) → visits m (item pc ∷ []) w.state.context ≡ Some d → Before m t (p + length (written pc))
  further w pc st few d e =
      let front = take p t ++ written pc in
      let ps = w.pieces ++ (pc ∷ []) in
      let long : length front ≡ p + length (written pc) = length-append (take p t) (written pc) ∙ ap (λ k. k + length (written pc)) (length-take-le p t w.within) in
      let cut : front ++ st.rest ≡ t = append_assoc (take p t) (written pc) st.rest ∙ ap (λ l. take p t ++ l) (sym st.reads) ∙ take-append-drop p t in
      let way : visits m (map item ps) 0 ≡ Some d = ap (λ is. visits m is 0) (map-append item w.pieces (pc ∷ [])) ∙ visits_append m (map item w.pieces) (item pc ∷ []) 0 ∙ ap (λ o. chain o (visits m (item pc ∷ []))) (visited w) ∙ e in
      let s = over_some place_of (run m (map item ps) 0 start) d (runs m (map item ps) 0 start ∙ way) in
      record {
        within = omega (arith, ap length cut, length-append front st.rest, long);
        pieces = ps;
        notation = record {
          well = recursion_from_All proper ps (All-push proper w.pieces pc (All-from_recursion proper w.pieces w.notation.well) st.well);
          spelled = sym (flat_map_more written [] w.pieces pc) ∙ ap (λ l. l ++ written pc) w.notation.spelled ∙ sym (take_at front st.rest _ long) ∙ ap (take (p + length (written pc))) cut;
        };
        few = omega (arith, holes_append w.pieces (pc ∷ []));
        state = s.0;
        ran = s.1;
      }
