-- A work list, one line after the other.
use Rattle.std.proofs.Common.{◌≡◌, ℕ, ◌+◌, ◌<◌, List, [], ◌∷◌, ◌++◌, map, length, get_or, take, sym, refl, ap, ◌∙◌, subst, ap₂, append_assoc}
use Rattle.std.proofs.lemmas.List.{take_more, map_push}
use Rattle.host.specs.Meaning.{Meaning}
use Rattle.printer.specs.Held.{State, Holds, Tracks}
use Rattle.printer.specs.Slate.{Slate}
use Rattle.worklist.specs.declared.line.Line.{Line}
use Rattle.worklist.specs.declared.line.Answer.{Answer}
use Rattle.worklist.specs.Calls.{order_of, reply_of, GoneDown}
use Rattle.worklist.specs.Lines.{Order, Reply, answer, next, answers, final}

-- This answer and this state are what the line comes to.
abbrev pub Followed : Meaning → List ℕ → State → State → Answer → Line → Type 0
Followed m bodies st st' a x = Tracks st st' (reply_of a) (λ ss. answer m bodies ss (order_of x)) (λ ss. next m bodies ss (order_of x))

module _ (m : Meaning) (bodies : List ℕ) where
  pub final_push : (ss : Slate) (os : List Order) (o : Order) → final m bodies ss (os ++ o ∷ []) ≡ next m bodies (final m bodies ss os) o
  final_push ss [] o = refl
  final_push ss (p ∷ os) o = final_push (next m bodies ss p) os o

  answers_push : (ss : Slate) (os : List Order) (o : Order) → answers m bodies ss (os ++ o ∷ []) ≡ answers m bodies ss os ++ answer m bodies (final m bodies ss os) o ∷ []
  answers_push ss [] o = refl
  answers_push ss (p ∷ os) o = ap (λ (rs : List Reply). answer m bodies ss p ∷ rs) (answers_push (next m bodies ss p) os o)

  gone_push : (st st₁ st₂ : State) (before all all' : List Answer) (a : Answer) (ls : List Line) (x : Line) → all' ≡ all ++ a ∷ [] → GoneDown m bodies st st₁ before all ls → Followed m bodies st₁ st₂ a x → GoneDown m bodies st st₂ before all' (ls ++ x ∷ [])
  gone_push st st₁ st₂ before all all' a ls x more g f =
      let os = map order_of ls in
      let orders = map_push order_of ls x in
      record {
        new = g.new ++ a ∷ [];
        added = more ∙ ap (λ (xs : List Answer). xs ++ a ∷ []) g.added ∙ append_assoc before g.new (a ∷ []);
        tracks = λ ss h.
            let was = g.tracks ss h in
            let step = f (final m bodies ss os) was.1 in (
              map_push reply_of g.new a ∙ ap₂ (λ (rs : List Reply) (r : Reply). rs ++ r ∷ []) was.0 step.0 ∙ sym (answers_push ss os (order_of x)) ∙ ap (answers m bodies ss) (sym orders),
              subst (Holds st₂) (sym (final_push ss os (order_of x)) ∙ ap (final m bodies ss) (sym orders)) step.1,
            );
      }

  -- one line more of the list, under a host of the same meaning
  pub gone_more : (st st₁ st₂ : State) (before all all' : List Answer) (a : Answer) (ls : List Line) (i : ℕ) (d : Line) (m' : Meaning) → m' ≡ m → i < length ls → all' ≡ all ++ a ∷ [] → GoneDown m bodies st st₁ before all (take i ls) → Followed m' bodies st₁ st₂ a (get_or ls i d) → GoneDown m bodies st st₂ before all' (take (i + 1) ls)
  gone_more st st₁ st₂ before all all' a ls i d m' same within more g f =
      let x = get_or ls i d in
      let step : Followed m bodies st₁ st₂ a x = subst (λ (k : Meaning). Followed k bodies st₁ st₂ a x) same f in
      subst (GoneDown m bodies st st₂ before all') (sym (take_more ls i d within)) (gone_push st st₁ st₂ before all all' a (take i ls) x more g step)
