-- A template that a host accepts is walked from piece to piece with no refusal.
use Rattle.std.proofs.Common.{◌≡◌, ℕ, ◌+◌, List, [], IfNone, sym, subst, MatchOption}
use Rattle.host.specs.Meaning.{Meaning}
use Rattle.fault.specs.Refusal.{report}
use Rattle.template.specs.Lexing.{Lexed, byte, hole, end, fault, lexed_from}
use Rattle.template.specs.Judging.{accepted, crossing, judge, verdict}
use Rattle.template.proofs.Judged.{apart, decided, crossed}
use Rattle.template.proofs.Plans.{short}

abbrev pub Walks : Meaning → Lexed → ℕ → Type 0
Walks m (byte p b rest) c = MatchOption (m.step c b) ⊥ (λ s. Walks m rest s.0)
Walks m (hole p n rest) c = MatchOption (crossing m c) ⊥ (λ x. Walks m rest x.1)
Walks m (end p) c = IfNone (m.end c) ⊥
Walks m (fault r) c = ⊥

judged_walks : (m : Meaning) (l : Lexed) (k c : ℕ) (bodies : List ℕ) (n : ℕ) (bs : List ℕ) → judge m l k c bodies ≡ accepted n bs → Walks m l c
judged_walks m (byte p b rest) k c bodies n bs e =
    let d = decided (m.step c b) (report 6 p) (λ s. judge m rest k s.0 bodies) n bs e in
    subst (λ o. MatchOption o ⊥ (λ s. Walks m rest s.0)) (sym d.1) (judged_walks m rest k d.0.0 bodies n bs d.2)
judged_walks m (hole p name rest) k c bodies n bs e =
    let d = crossed m p name rest k c bodies n bs e in
    subst (λ o. MatchOption o ⊥ (λ x. Walks m rest x.1)) (sym d.found) (judged_walks m rest (k + 1) d.way.1 _ n bs d.onward)
judged_walks m (end p) k c bodies n bs e =
    let d = decided (m.end c) (report 8 p) (λ x. accepted k bodies) n bs e in
    subst (λ o. IfNone o ⊥) (sym d.1) tt
judged_walks m (fault r) k c bodies n bs e = absurd (apart e)

pub accepted_walks : (m : Meaning) (t : List ℕ) (n : ℕ) (bs : List ℕ) → accepted n bs ≡ verdict m t → Walks m (lexed_from t 0) 0
accepted_walks m t n bs e = judged_walks m (lexed_from t 0) 0 0 [] n bs (short m t n bs (sym e)).1
