use Rattle.std.proofs.Common.{rules}
use Rattle.template.specs.Lexing.{lexed_from}
use Rattle.printer.specs.Passes.{prints}
use Rattle.printer.specs.Rows.{value_at}
use Rattle.printer.proofs.Turned.{walked_printed}
use Rattle.printer.proofs.Writing.{onward_whole}
use Rattle.printer.proofs.finished.Finished.print_surveyed.Goals as goal

pub returns-in_err-needed-clause-law : goal.returns-in_err-needed-clause-law
returns-in_err-needed-clause-law g c = search walked_printed

pub returns-then-needed-out-clause-law : goal.returns-then-needed-out-clause-law
returns-then-needed-out-clause-law g c = search walked_printed

pub returns-clause-law : goal.returns-clause-law
returns-clause-law g c = search walked_printed

pub returns-clause-text : goal.returns-clause-text
returns-clause-text g c =
    let x = prints (g.H.Host.meaning c.args.sheet.now.host) (value_at c.args.sheet.now.table.rows) (lexed_from c.args.self.now.template.now 0) 0 0 in
    let written = onward_whole _ _ _ _ x _ c.in_ok-needed.ensures c.if-needed-out.false c.walk_text-2.ensures in
    search rules
