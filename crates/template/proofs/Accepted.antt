-- What a template that a host accepts is: its items, the bodies of its holes, and a plan.
use Rattle.std.proofs.Common.{◌≡◌, ℕ, suc, ◌+◌, ◌≤◌, true, List, [], ◌∷◌, ◌++◌, map, length, is_some, Some, None, Option, sym, refl, ap, ◌∙◌, subst, append_assoc, append-nil, arith}
use Rattle.std.proofs.lemmas.Bool.{false≢true}
use Rattle.host.specs.Meaning.{Meaning, Brackets, chain}
use Rattle.host.specs.Run.{Item, literal, hole as gap, Token, State, start, enter, apply, read_byte, read_end, run_hole, run, plan}
use Rattle.host.specs.Promise.{holes, bodies, each}
use Rattle.fault.specs.Refusal.{report}
use Rattle.template.specs.Lexing.{Lexed, byte, hole, end, fault, between_pieces, lex, lexed_from}
use Rattle.template.specs.Judging.{accepted, reach, crossing, judge, verdict}
use Rattle.template.proofs.Judged.{apart, decided, crossed}
use Rattle.template.proofs.Reading.{items_of, nothing, the_same, chain_some, read_written}
use Rattle.template.proofs.Plans.{over, place_of, beyond, crosses, short, accepted_sized}
use Rattle.template.specs.Notation.{Piece, itself, escape, named, written, proper, item}
use Rattle.template.proofs.Pieces.{placed, read_piece}
use Rattle.std.specs.List.{flat_map, AllByRecursion}
use Rattle.template.specs.Items.{items_in, items, names_in, names_of, ItemsOfPieces}

-- the recipe of a context that a hole is crossed in
pub crossed_recipe : (m : Meaning) (c : ℕ) (x : ℕ × ℕ) → crossing m c ≡ Some x → (r : Brackets) × (m.recipe c ≡ Some r) × (r.body ≡ x.0)
crossed_recipe m c x e = go (m.recipe c) refl e
  where
    last : (r : Brackets) (o : Option ℕ) → chain o (λ d. Some (r.body, d)) ≡ Some x → r.body ≡ x.0
    last r None f = absurd (nothing f)
    last r (Some d) f = ap (λ (y : ℕ × ℕ). y.0) (the_same f)

    inner : (r : Brackets) (o : Option ℕ) → chain o (λ d. chain (reach m d r.closer) (λ d'. Some (r.body, d'))) ≡ Some x → r.body ≡ x.0
    inner r None f = absurd (nothing f)
    inner r (Some d) f = last r (reach m d r.closer) f

    go : (o : Option Brackets) → m.recipe c ≡ o → chain o (λ r. chain (reach m c r.opener) (λ d. chain (reach m d r.closer) (λ d'. Some (r.body, d')))) ≡ Some x → (r : Brackets) × (m.recipe c ≡ Some r) × (r.body ≡ x.0)
    go None q f = absurd (nothing f)
    go (Some r) q f = (r, q, inner r (reach m c r.opener) f)

-- and the state after it
landed : (o : Option State) (c : ℕ) → over place_of o ≡ Some c → (t : State) × (o ≡ Some t) × (t.context ≡ c)
landed None c e = absurd (nothing e)
landed (Some t) c e = (t, refl, the_same e)

-- what is judged of the pieces that are left: k holes stand before them, with the bodies acc; the marks are numbered from j on
record Went (m : Meaning) (l : Lexed) (k j : ℕ) (s : State) (acc : List ℕ) (n : ℕ) (bs : List ℕ) : Type 0 where
  read : items_of l ≡ Some (items_in l)
  count : n ≡ k + holes (items_in l)
  bodied : bs ≡ acc ++ bodies m (items_in l) j s
  ended : is_some (chain (run m (items_in l) j s) (read_end m)) ≡ true

went : (m : Meaning) (l : Lexed) (k j : ℕ) (s : State) (acc : List ℕ) (n : ℕ) (bs : List ℕ) → judge m l k s.context acc ≡ accepted n bs → Went m l k j s acc n bs
went m (byte p b rest) k j s acc n bs e =
    let d = decided (m.step s.context b) (report 6 p) (λ u. judge m rest k u.0 acc) n bs e in
    let next : State = enter d.0.0 (apply d.0.1 s) in
    let r = went m rest k j next acc n bs d.2 in
    let to : read_byte m b s ≡ Some next = ap (λ o. chain o (λ u. Some (enter u.0 (apply u.1 s)))) d.1 in
    record {
      read = ap (λ o. chain o (λ is. Some (literal b ∷ is))) r.read;
      count = r.count;
      bodied = r.bodied ∙ ap (λ o. acc ++ each o (bodies m (items_in rest) j)) (sym to);
      ended = ap (λ o. is_some (chain (chain o (run m (items_in rest) j)) (read_end m))) to ∙ r.ended;
    }
went m (hole p name rest) k j s acc n bs e =
    let d = crossed m p name rest k s.context acc n bs e in
    let x = d.way in
    let is = items_in rest in
    let b = crossed_recipe m s.context x d.found in
    let t = landed (run_hole m j s) x.1 (crosses m j s ∙ ap (over beyond) d.found) in
    let r = went m rest (k + 1) (suc j) t.0 (acc ++ (x.0 ∷ [])) n bs (subst (λ c. judge m rest (k + 1) c (acc ++ (x.0 ∷ [])) ≡ accepted n bs) (sym t.2) d.onward) in
    record {
      read = ap (λ o. chain o (λ js. Some (gap ∷ js))) r.read;
      count = omega (arith, r.count);
      bodied =
          r.bodied ∙ append_assoc acc (x.0 ∷ []) (bodies m is (suc j) t.0)
          ∙ ap (λ c. acc ++ (c ∷ bodies m is (suc j) t.0)) (sym b.2)
          ∙ ap (λ o. acc ++ (b.0.body ∷ each o (bodies m is (suc j)))) (sym t.1)
          ∙ ap (λ o. acc ++ each o (λ r. r.body ∷ each (run_hole m j s) (bodies m is (suc j)))) (sym b.1);
      ended = ap (λ o. is_some (chain (chain o (run m is (suc j))) (read_end m))) t.1 ∙ r.ended;
    }
went m (end p) k j s acc n bs e =
    let d = decided (m.end s.context) (report 8 p) (λ x. accepted k acc) n bs e in
    record {
      read = refl;
      count = let same : k ≡ n = cc in omega arith;
      bodied = let same : acc ≡ bs = cc in sym same ∙ sym (append-nil acc);
      ended = ap (λ o. is_some (chain o (λ x. Some (apply x s).closed))) d.1;
    }
went m (fault r) k j s acc n bs e = absurd (apart e)

pub record Accepted (m : Meaning) (t : List ℕ) (n : ℕ) (bs : List ℕ) : Type 0 where
  pub read : items_of (lexed_from t 0) ≡ Some (items t)
  pub count : n ≡ holes (items t)
  pub bodied : bs ≡ bodies m (items t) 0 start
  pub few : n ≤ 64
  pub tokens : List Token
  pub planned : plan m (items t) ≡ Some tokens

pub accepted_is : (m : Meaning) (t : List ℕ) (n : ℕ) (bs : List ℕ) → verdict m t ≡ accepted n bs → Accepted m t n bs
accepted_is m t n bs e =
    let w = went m (lexed_from t 0) 0 0 start [] n bs (short m t n bs e).1 in
    let p = some (plan m (items t)) w.ended in
    record {
      read = w.read;
      count = omega (arith, w.count);
      bodied = w.bodied;
      few = (accepted_sized m t n bs e).few (omega arith);
      tokens = p.0;
      planned = p.1;
    }
  where
    some : {A : Type 0} (o : Option A) → is_some o ≡ true → (x : A) × (o ≡ Some x)
    some None f = absurd (false≢true f)
    some (Some x) f = (x, refl)

-- the items as they are read, where the notation is kept
pub items_read : (l : Lexed) (is : List Item) → items_of l ≡ Some is → items_in l ≡ is
items_read (byte p b rest) is e = let r = chain_some (λ js. literal b ∷ js) (items_of rest) is e in ap (λ js. literal b ∷ js) (items_read rest r.0 r.1) ∙ r.2
items_read (hole p n rest) is e = let r = chain_some (λ js. gap ∷ js) (items_of rest) is e in ap (λ js. gap ∷ js) (items_read rest r.0 r.1) ∙ r.2
items_read (end p) is e = the_same e
items_read (fault r) is e = absurd (nothing e)

-- the names of the holes of what is written
names_placed : (pc : Piece) (p : ℕ) (l : Lexed) (ps : List Piece) → names_in l ≡ names_of ps → names_in (placed pc p l) ≡ names_of (pc ∷ ps)
names_placed (itself b) p l ps e = e
names_placed (escape x) p l ps e = e
names_placed (named n) p l ps e = ap (λ ns. n ∷ ns) e

names_written : (ps : List Piece) → AllByRecursion proper ps → (p : ℕ) → names_in (lex between_pieces p (flat_map written ps)) ≡ names_of ps
names_written [] ok p = refl
names_written (pc ∷ ps) ok p =
    ap names_in (read_piece pc ok.0 p (flat_map written ps)) ∙ names_placed pc p _ ps (names_written ps ok.1 (p + length (written pc)))

pub items_of_pieces : (t : List ℕ) → ItemsOfPieces t
items_of_pieces t ps w = (
  items_read (lexed_from t 0) (map item ps) (ap (λ l. items_of (lex between_pieces 0 l)) (sym w.spelled) ∙ read_written ps w.well 0),
  ap (λ l. names_in (lex between_pieces 0 l)) (sym w.spelled) ∙ names_written ps w.well 0,
)
