-- Each call on a map and a table answers as the slate that they hold does, and they hold the slate after it.
use Rattle.std.proofs.Common.{◌≡◌, ℕ, zero, suc, ◌+◌, ◌-◌, ◌%◌, ◌^◌, ◌<◌, ◌≤◌, Bool, true, false, cond, eqb, ltb, List, [], ◌∷◌, ◌++◌, map, length, get_or, set, Some, None, Ok, Option, sym, refl, ap, ◌∙◌, subst, ap₂, arith, length-set, get_or-set_same}
use native.Mathlib.Nat.{zero-div}
use lib.Count.{ones, count_trailing_zeros}
use lib.ListN.{length-map, length-replicate}
use lib.Seq.{set-append_left, map-set, take-append_seam}
use Rattle.std.proofs.lemmas.Bool.{ltb-true, eqb-true}
use Rattle.host.specs.Meaning.{Meaning}
use Rattle.fault.specs.Refusal.{Refusal, of_hole}
use Rattle.printer.specs.declared.row.Row.{Row}
use Rattle.printer.specs.Rows.{zeros, row_of, blank, value_in, value_at}
use Rattle.printer.specs.Slate.{Slate, fresh, owed_at, how_many, lowest, judge_bind_lem, judge_value, judge_release_lem, judge_finish_lem, settled, verdict_bind, verdict_release, bound, released, value_or_none, values_on}
use Rattle.printer.specs.Held.{rows_of, State, opened, filled, freed, Marks, Holds, Tracks, owed_bit, lowest_bit, judged_finish}
use Rattle.printer.proofs.Laid.{past}
use Rattle.printer.proofs.Bitmap.{map_bit, map_fill, map_free, map_fresh, map_ones, map_lowest}

rows_set : (ss : Slate) (k : ℕ) (s : Option (List ℕ)) → k < length ss → set (rows_of ss) k (row_of s) ≡ rows_of (set ss k s)
rows_set ss k s h =
    set-append_left (map row_of ss) (blank (64 - length ss)) k (row_of s) (subst (λ (n : ℕ). k < n) (sym (length-map ss row_of)) h)
    ∙ ap₂ (λ (rs : List Row) (n : ℕ). rs ++ blank (64 - n)) (sym (map-set row_of ss k s)) (sym (length-set ss k s))

blank_cat : (n k : ℕ) → map row_of (fresh n) ++ blank k ≡ blank (n + k)
unfolding blank
blank_cat zero k = ap blank (omega arith)
blank_cat (suc n) k =
    let e : suc (n + k) ≡ suc n + k = omega arith in ap (λ (rs : List Row). row_of None ∷ rs) (blank_cat n k) ∙ ap blank e

-- a just-opened filling and its cleared sheet
pub opened_holds : (n : ℕ) → n ≤ 64 → Holds (opened n) (fresh n)
opened_holds n h = record {
  marks = record { count = length-replicate n None; bits = omega (arith, map_fresh n) };
  laid = sym (ap (λ (k : ℕ). map row_of (fresh n) ++ blank (64 - k)) (length-replicate n None) ∙ blank_cat n (64 - n) ∙ ap blank (omega arith));
}

-- what a line that is taken shows
bind_taken : (m : Meaning) (bodies : List ℕ) (n : ℕ) (b : Bool) (hole : ℕ) (v : List ℕ) → judge_bind_lem m bodies n b hole v ≡ None → (hole < n) × (b ≡ true)
bind_taken m bodies n b hole v e = go (ltb hole n) b refl refl e
  where
    go : (t u : Bool) → ltb hole n ≡ t → b ≡ u → cond t (cond u (judge_value m hole (get_or bodies hole 0) v) (Some (of_hole 11 hole 0))) (Some (of_hole 10 hole 0)) ≡ None → (hole < n) × (b ≡ true)
    go true true p q r = (ltb-true hole n p, q)
    go true false p q r = cc
    go false u p q r = cc

release_taken : (n : ℕ) (b : Bool) (hole : ℕ) → judge_release_lem n b hole ≡ None → (hole < n) × (b ≡ false)
release_taken n b hole e = go (ltb hole n) b refl refl e
  where
    go : (t u : Bool) → ltb hole n ≡ t → b ≡ u → cond t (cond u (Some (of_hole 14 hole 0)) None) (Some (of_hole 10 hole 0)) ≡ None → (hole < n) × (b ≡ false)
    go true false p q r = (ltb-true hole n p, q)
    go true true p q r = cc
    go false u p q r = cc

settled_holds : {st st' : State} {ss ss' : Slate} (j : Option Refusal) → (j ≡ None → Holds st' ss') → Holds st ss → Holds (settled j st' st) (settled j ss' ss)
settled_holds None new old = new refl
settled_holds (Some e) new old = old

module _ (st : State) (ss : Slate) (h : Holds st ss) where
  bit_is : (hole : ℕ) → owed_bit st.owed hole ≡ owed_at ss hole
  bit_is hole = ap (λ (x : ℕ). owed_bit x hole) h.marks.bits ∙ map_bit ss hole

  bind_judged : (m : Meaning) (bodies : List ℕ) (hole : ℕ) (v : List ℕ) → judge_bind_lem m bodies st.holes (owed_bit st.owed hole) hole v ≡ verdict_bind m bodies ss hole v
  bind_judged m bodies hole v = ap₂ (λ (k : ℕ) (b : Bool). judge_bind_lem m bodies k b hole v) (sym h.marks.count) (bit_is hole)

  release_judged : (hole : ℕ) → judge_release_lem st.holes (owed_bit st.owed hole) hole ≡ verdict_release ss hole
  release_judged hole = ap₂ (λ (k : ℕ) (b : Bool). judge_release_lem k b hole) (sym h.marks.count) (bit_is hole)

  fill_holds : (hole : ℕ) (v : List ℕ) → hole < st.holes → owed_bit st.owed hole ≡ true → Holds (filled st hole v) (set ss hole (Some v))
  fill_holds hole v l t = record {
    marks = record {
      count = length-set ss hole (Some v) ∙ h.marks.count;
      bits = omega (arith, map_fill ss hole v (sym (bit_is hole) ∙ t), h.marks.bits);
    };
    laid = ap (λ (rs : List Row). set rs hole (row_of (Some v))) h.laid ∙ rows_set ss hole (Some v) (omega (arith, h.marks.count));
  }

  free_holds : (hole : ℕ) → hole < st.holes → owed_bit st.owed hole ≡ false → Holds (freed st hole) (set ss hole None)
  free_holds hole l f = record {
    marks = record {
      count = length-set ss hole None ∙ h.marks.count;
      bits = omega (arith, map_free ss hole (sym (bit_is hole) ∙ f) (omega (arith, h.marks.count)), h.marks.bits);
    };
    laid = ap (λ (rs : List Row). set rs hole (row_of None)) h.laid ∙ rows_set ss hole None (omega (arith, h.marks.count));
  }

  bind_holds : (m : Meaning) (bodies : List ℕ) (hole : ℕ) (v : List ℕ) → Holds (settled (judge_bind_lem m bodies st.holes (owed_bit st.owed hole) hole v) (filled st hole v) st) (bound m bodies ss hole v)
  bind_holds m bodies hole v =
      let j = judge_bind_lem m bodies st.holes (owed_bit st.owed hole) hole v in
      subst (λ (k : Option Refusal). Holds (settled j (filled st hole v) st) (settled k (set ss hole (Some v)) ss)) (bind_judged m bodies hole v)
      (settled_holds j (λ e. let p = bind_taken m bodies st.holes (owed_bit st.owed hole) hole v e in fill_holds hole v p.0 p.1) h)

  release_holds : (hole : ℕ) → Holds (settled (judge_release_lem st.holes (owed_bit st.owed hole) hole) (freed st hole) st) (released ss hole)
  release_holds hole =
      let j = judge_release_lem st.holes (owed_bit st.owed hole) hole in
      subst (λ (k : Option Refusal). Holds (settled j (freed st hole) st) (settled k (set ss hole None) ss)) (release_judged hole)
      (settled_holds j (λ e. let p = release_taken st.holes (owed_bit st.owed hole) hole e in free_holds hole p.0 p.1) h)

-- the count of the owed holes, and the lowest
pub low_is : (n owed : ℕ) (ss : Slate) → n ≤ 64 → Marks n owed ss → lowest_bit owed ≡ lowest ss
low_is n owed ss few h = ap lowest_bit h.bits ∙ map_lowest ss (omega (arith, h.count))

pub counted : (n owed : ℕ) (ss : Slate) → n ≤ 64 → Marks n owed ss → ◌≡◌ {A = ℕ × Option ℕ} (ones owed, lowest_bit owed) (how_many ss, lowest ss)
counted n owed ss few h = ap₂ (λ (a : ℕ) (b : Option ℕ). (a, b)) (ap ones h.bits ∙ map_ones ss) (low_is n owed ss few h)

-- a call that answers by the map and leaves what its answer says
pub tracks_bind : (st st' : State) (m : Meaning) (bodies : List ℕ) (hole : ℕ) (v : List ℕ) (t : Option Refusal)
    → t ≡ judge_bind_lem m bodies st.holes (owed_bit st.owed hole) hole v → st' ≡ settled t (filled st hole v) st
    → Tracks st st' t (λ ss. verdict_bind m bodies ss hole v) (λ ss. bound m bodies ss hole v)
tracks_bind st st' m bodies hole v t e s ss h =
    (e ∙ bind_judged st ss h m bodies hole v, rw (s, e) (bind_holds st ss h m bodies hole v))

pub tracks_release : (st st' : State) (hole : ℕ) (t : Option Refusal)
    → t ≡ judge_release_lem st.holes (owed_bit st.owed hole) hole → st' ≡ settled t (freed st hole) st
    → Tracks st st' t (λ ss. verdict_release ss hole) (λ ss. released ss hole)
tracks_release st st' hole t e s ss h = (e ∙ release_judged st ss h hole, rw (s, e) (release_holds st ss h hole))

-- where nothing is owed, each hole has its value
pub none_owed : (n owed : ℕ) (ss : Slate) (k : ℕ) → owed ≡ 0 → Marks n owed ss → owed_at ss k ≡ false
none_owed n owed ss k e h = sym (map_bit ss k) ∙ ap (λ (x : ℕ). owed_bit x k) (sym h.bits ∙ e) ∙ ap (λ (x : ℕ). eqb (x % 2) 1) (zero-div (2 ^ k))

-- a row gives back the value of its hole
value_of : (s : Option (List ℕ)) → value_in (row_of s) ≡ value_or_none s
value_of None = refl
value_of (Some v) = take-append_seam v (zeros (160 - length v))

pub past_blank : (n k : ℕ) → value_at (blank n) k ≡ []
unfolding blank
past_blank zero k = refl
past_blank (suc n) zero = refl
past_blank (suc n) (suc k) = past_blank n k

value_in_row : (ss : Slate) (n k : ℕ) → value_at (map row_of ss ++ blank n) k ≡ values_on ss k
value_in_row [] n k = past_blank n k
value_in_row (s ∷ ss) n zero = value_of s
value_in_row (s ∷ ss) n (suc k) = value_in_row ss n k

pub rows_hold : (rows : List Row) (ss : Slate) → rows ≡ rows_of ss → (k : ℕ) → value_at rows k ≡ values_on ss k
rows_hold rows ss laid k = ap (λ (rs : List Row). value_at rs k) laid ∙ value_in_row ss (64 - length ss) k

pub length_blank : (n : ℕ) → length (blank n) ≡ n
unfolding blank
length_blank zero = refl
length_blank (suc n) = ap suc (length_blank n)

-- a value that is stored is there
pub stored : (rows : List Row) (hole : ℕ) (v : List ℕ) → hole < length rows → value_at (set rows hole (row_of (Some v))) hole ≡ v
stored rows hole v lt = ap value_in (get_or-set_same rows hole (row_of (Some v)) past lt) ∙ value_of (Some v)

-- a bind that is taken keeps to its limits
pub bind_within : (m : Meaning) (bodies : List ℕ) (n : ℕ) (b : Bool) (hole : ℕ) (v : List ℕ) → judge_bind_lem m bodies n b hole v ≡ None → hole < n
bind_within m bodies n b hole v e = (bind_taken m bodies n b hole v e).0

-- a filling that can be finished owes nothing
pub finished_none : (holes owed : ℕ) → judged_finish holes owed ≡ Ok holes → owed ≡ 0
finished_none holes owed e = go (eqb owed 0) refl e
  where
    go : (b : Bool) → eqb owed 0 ≡ b → judge_finish_lem holes (cond b None (Some (count_trailing_zeros 64 owed))) ≡ Ok holes → owed ≡ 0
    go true q f = eqb-true owed 0 q
    go false q f = cc
