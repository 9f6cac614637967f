-- What is left of a template after a run of literals.
use Rattle.std.proofs.Common.{◌≡◌, ℕ, ◌+◌, List, [], ◌∷◌, ◌++◌, length, slice_index, Ok, Err, Result, sym, refl, ap, ◌∙◌}
use Rattle.host.specs.Answers.{bytes_of}
use Rattle.host.specs.Meaning.{Meaning}
use Rattle.fault.specs.Refusal.{Refusal}
use Rattle.template.specs.declared.items.Items.{Items}
use Rattle.template.specs.declared.survey.Survey.{Survey}
use Rattle.template.specs.Lexing.{Lexed, lexed_from, literals}
use Rattle.printer.specs.declared.borrowed.BorrowedTable.{BorrowedTable}
use Rattle.printer.specs.declared.page.Page.{Page}
use Rattle.printer.specs.Borrowed.{rows_in}
use Rattle.printer.specs.Passes.{sets_out, overlaid, onward}
use Rattle.printer.specs.Printing.{after}
use Rattle.printer.specs.Rows.{value_at}
use Rattle.printer.proofs.Writing.{onward_more}

after_same : (x : Result (List ℕ) Refusal) → after (λ t. [] ++ t) x ≡ x
after_same (Ok t) = refl
after_same (Err r) = refl

after_after : (b : ℕ) (bs : List ℕ) (x : Result (List ℕ) Refusal) → after (λ t. b ∷ t) (after (λ t. bs ++ t) x) ≡ after (λ t. (b ∷ bs) ++ t) x
after_after b bs (Ok t) = refl
after_after b bs (Err r) = refl

run_first : (m : Meaning) (cs : ℕ → ℕ) (v : ℕ → List ℕ) (k : ℕ) (rest : Lexed) (w : List ℕ) (p : ℕ) → sets_out m cs v (literals p w rest) k ≡ after (λ t. w ++ t) (sets_out m cs v rest k)
run_first m cs v k rest [] p = sym (after_same (sets_out m cs v rest k))
run_first m cs v k rest (b ∷ bs) p = ap (after (λ t. b ∷ t)) (run_first m cs v k rest bs (p + 1)) ∙ after_after b bs (sets_out m cs v rest k)

-- what is left of the items, as a survey and a table have it
abbrev pub left : Meaning → Survey → BorrowedTable → Items → ℕ → Result (List ℕ) Refusal
left m s vs i k = sets_out m (slice_index (bytes_of s.contexts)) (value_at (rows_in vs.rows)) (lexed_from i.template.now i.at) k

pub after_plain : (m : Meaning) (s : Survey) (vs : BorrowedTable) (i i' : Items) (w : List ℕ) (p p' : Page) (k : ℕ) (out out' : List ℕ) (all : Result (ℕ × List ℕ) Refusal) → i'.template ≡ i.template → lexed_from i.template.now i.at ≡ literals i.at w (lexed_from i.template.now i'.at) → p'.end ≡ p.end + length w → out' ≡ overlaid out p.end w → onward p.end out (left m s vs i k) ≡ all → onward p'.end out' (left m s vs i' k) ≡ all
after_plain m s vs i i' w p p' k out out' all kept is far laid same =
    let cs = slice_index (bytes_of s.contexts) in
    let v = value_at (rows_in vs.rows) in
    let rest = lexed_from i.template.now i'.at in
    rw (kept, far, laid) (sym (onward_more p.end out w (sets_out m cs v rest k)) ∙ ap (onward p.end out) (sym (run_first m cs v k rest w i.at)) ∙ sym (ap (λ l. onward p.end out (sets_out m cs v l k)) is) ∙ same)
