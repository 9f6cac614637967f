use Rattle.std.proofs.Common.{slice_index, rules}
use Rattle.host.specs.Answers.{bytes_of}
use Rattle.template.specs.Lexing.{lexed_from}
use Rattle.printer.specs.Borrowed.{rows_in}
use Rattle.printer.specs.Passes.{sets_out}
use Rattle.printer.specs.Rows.{value_at}
use Rattle.printer.proofs.SetOut.{set_out_printed}
use Rattle.printer.proofs.Writing.{onward_whole}
use Rattle.printer.proofs.finished.Finished.print_borrowed.Goals as goal

pub returns-in_err-needed-clause-law : goal.returns-in_err-needed-clause-law
returns-in_err-needed-clause-law g c = search set_out_printed

pub returns-then-needed-out-clause-law : goal.returns-then-needed-out-clause-law
returns-then-needed-out-clause-law g c = search set_out_printed

pub returns-clause-law : goal.returns-clause-law
returns-clause-law g c = search set_out_printed

pub returns-clause-text : goal.returns-clause-text
returns-clause-text g c =
    let a = c.args in
    let x = sets_out (g.H.Host.meaning a.host.now) (slice_index (bytes_of a.survey.now.contexts)) (value_at (rows_in a.values.now.rows)) (lexed_from a.self.now.template.now 0) 0 in
    let written = onward_whole _ _ _ _ x _ c.in_ok-needed.ensures c.if-needed-out.false c.set_out_text-2.ensures in
    search rules
