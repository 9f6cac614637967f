-- From the answers of the calls that a merge makes to what it comes to.
use Rattle.std.proofs.Common.{◌≡◌, ℕ, ◌+◌, List, [], ◌∷◌, Some, None, Ok, Err, Result, sym, refl, ap, ◌∙◌}
use Rattle.host.specs.Meaning.{Meaning}
use Rattle.host.specs.Answers.{bytes_of}
use Rattle.host.specs.Run.{Item, literal, hole as gap}
use Rattle.fault.specs.Refusal.{Refusal, refusal_of}
use Rattle.template.specs.declared.items.Items.{Items}
use Rattle.template.specs.declared.survey.Survey.{Survey}
use Rattle.template.specs.Items.{names_in, names}
use Rattle.template.specs.Judging.{Verdict, contexts_in, verdict, survey_of}
use Rattle.template.specs.Lexing.{Lexed, byte, hole, end, fault, lexed_from, literals}
use Rattle.template.proofs.Accepted.{accepted_is}
use Rattle.template.proofs.Reading.{items_of, nothing, chain_some}
use Rattle.record.specs.declared.shape.Record.{Record}
use Rattle.record.specs.declared.shape.State.{State as FoundOrNot}
use Rattle.record.specs.declared.shape.State.TheVariants.{Found, End, Refused}
use Rattle.record.specs.Answers.{value_of, answer, by_state}
use Rattle.record.specs.Reading.{read_at}
use Rattle.record.specs.Format.{Pair}
use Rattle.printer.specs.declared.borrowed.BorrowedTable.{BorrowedTable}
use Rattle.printer.specs.declared.filling.Filling.{Filling}
use Rattle.printer.specs.Calls.{bodies_of, borrowed_state}
use Rattle.printer.specs.Held.{State}
use Rattle.printer.specs.Passes.{and_then, set_out}
use Rattle.printer.specs.Printing.{printed, after, weight}
use Rattle.printer.proofs.SetOut.{set_out_printed}
use Rattle.printer.proofs.Writing.{refuses}
use Rattle.merge.specs.declared.source.Source.{Source}
use Rattle.merge.specs.Answers.{bind_pieces, source_pairs, weighed_one, weighed, laid_over, written, record_pairs}
use Rattle.merge.specs.Merging.{bind_named_lem, bind_all, with_pairs, with_record, merged_by, merged}

-- a run of literals binds nothing
bound_past : (m : Meaning) (d : Verdict) (ps : List Pair) (e k : ℕ) (st : State) (w : List ℕ) (p : ℕ) (rest : Lexed) → bind_pieces m d ps e st k (literals p w rest) ≡ bind_pieces m d ps e st k rest
bound_past m d ps e k st [] p rest = refl
bound_past m d ps e k st (b ∷ bs) p rest = bound_past m d ps e k st bs (p + 1) rest

pub after_plain : (m : Meaning) (s : Survey) (src : Source) (f : Filling) (tb : BorrowedTable) (i i' : Items) (w : List ℕ) (k : ℕ) (all : Result State Refusal) → lexed_from i.template.now i.at ≡ literals i.at w (lexed_from i.template.now i'.at) → all ≡ bind_pieces m (survey_of s) (source_pairs src) src.found.now.end (borrowed_state f tb) k (lexed_from i.template.now i.at) → all ≡ bind_pieces m (survey_of s) (source_pairs src) src.found.now.end (borrowed_state f tb) k (lexed_from i.template.now i'.at)
after_plain m s src f tb i i' w k all is same =
    let d = survey_of s in
    let ps = source_pairs src in
    same ∙ ap (bind_pieces m d ps src.found.now.end (borrowed_state f tb) k) is ∙ bound_past m d ps src.found.now.end k (borrowed_state f tb) w i.at (lexed_from i.template.now i'.at)

-- the pieces of a template whose notation is kept are bound as its names are
pieces_named : (m : Meaning) (d : Verdict) (ps : List Pair) (e : ℕ) (l : Lexed) (is : List Item) (st : State) (k : ℕ) → items_of l ≡ Some is → bind_pieces m d ps e st k l ≡ bind_all m d ps e st k (names_in l)
pieces_named m d ps e (byte p b rest) is st k read = let r = chain_some (λ js. literal b ∷ js) (items_of rest) is read in pieces_named m d ps e rest r.0 st k r.1
pieces_named m d ps e (hole p n rest) is st k read =
    let r = chain_some (λ js. gap ∷ js) (items_of rest) is read in
    go (λ st'. pieces_named m d ps e rest r.0 st' (k + 1) r.1) (bind_named_lem m d e st k (value_of n ps))
  where
    go : ((st' : State) → bind_pieces m d ps e st' (k + 1) rest ≡ bind_all m d ps e st' (k + 1) (names_in rest)) → (x : Result State Refusal) → and_then x (λ st'. bind_pieces m d ps e st' (k + 1) rest) ≡ and_then x (λ st'. bind_all m d ps e st' (k + 1) (names_in rest))
    go more (Ok st') = more st'
    go more (Err q) = refl
pieces_named m d ps e (end p) is st k read = refl
pieces_named m d ps e (fault r) is st k read = absurd (nothing read)

-- where the host accepts the template, its notation is kept
pub pieces_bound : (m : Meaning) (t : List ℕ) (s : Survey) (ps : List Pair) (e : ℕ) (st : State) → verdict m t ≡ survey_of s → bind_pieces m (survey_of s) ps e st 0 (lexed_from t 0) ≡ bind_all m (survey_of s) ps e st 0 (names t)
pieces_bound m t s ps e st judged = let a = accepted_is m t s.bodies.len (bodies_of s) judged in pieces_named m (survey_of s) ps e (lexed_from t 0) _ st 0 a.read

-- a print that is refused
pub unprinted : (m : Meaning) (v : ℕ → List ℕ) (t : List ℕ) (s : Survey) (room : ℕ) (q : Refusal) → verdict m t ≡ survey_of s → bytes_of s.contexts ≡ contexts_in m (lexed_from t 0) 0 → Err q ≡ weight (set_out m (bytes_of s.contexts) v t room) → printed m v t room ≡ Err q
unprinted m v t s room q judged there e = go (printed m v t room) (e ∙ ap weight (set_out_printed m v t (bytes_of s.contexts) s.bodies.len (bodies_of s) judged there room))
  where
    go : (x : Result (List ℕ) Refusal) → Err q ≡ weight x → x ≡ Err q
    go (Ok w) f = absurd (refuses f)
    go (Err r) f = let same : r ≡ q = cc in ap Err same

-- a record that was found is merged under the verdict of a survey
pub comes_found : (m : Meaning) (t input : List ℕ) (place room : ℕ) (s : Survey) → verdict m t ≡ survey_of s → (r : Record) → r.state ≡ Found → answer input r ≡ read_at input place → merged m t input place room ≡ after (λ y. Some y) (with_pairs m (survey_of s) t s.bodies.len room (record_pairs input r) r.end r.next)
comes_found m t input place room s judged r is reads =
    ap (λ (d : Verdict). merged_by d m t input place room) judged
    ∙ ap (with_record m (survey_of s) t s.bodies.len room) (sym reads ∙ ap (λ (x : FoundOrNot). by_state x input r) is)

-- and so is one that is refused, and the input's end
pub comes_none : (m : Meaning) (t input : List ℕ) (place room : ℕ) (s : Survey) → verdict m t ≡ survey_of s → (r : Record) → r.state ≡ End → answer input r ≡ read_at input place → merged m t input place room ≡ Ok None
comes_none m t input place room s judged r is reads =
    ap (λ (d : Verdict). merged_by d m t input place room) judged
    ∙ ap (with_record m (survey_of s) t s.bodies.len room) (sym reads ∙ ap (λ (x : FoundOrNot). by_state x input r) is)

pub comes_refused : (m : Meaning) (t input : List ℕ) (place room : ℕ) (s : Survey) → verdict m t ≡ survey_of s → (r : Record) → r.state ≡ Refused → answer input r ≡ read_at input place → merged m t input place room ≡ Err (refusal_of r.fault)
comes_refused m t input place room s judged r is reads =
    ap (λ (d : Verdict). merged_by d m t input place room) judged
    ∙ ap (with_record m (survey_of s) t s.bodies.len room) (sym reads ∙ ap (λ (x : FoundOrNot). by_state x input r) is)

pub weighed_some : (w : Result (ℕ × List ℕ) Refusal) → weighed (after (λ y. Some y) w) ≡ after (λ y. Some y) (weighed_one w)
weighed_some (Ok w) = refl
weighed_some (Err r) = refl

pub written_some : (old : List ℕ) (w : Result (ℕ × List ℕ) Refusal) → written old (after (λ y. Some y) w) ≡ laid_over old w
written_some old (Ok w) = refl
written_some old (Err r) = refl
