use Rattle.std.proofs.Common.{◌≡◌, Err, length, arith, rules}
use Rattle.fault.specs.Refusal.{refusal_of}
use Rattle.host.specs.Answers.{bytes_of}
use Rattle.printer.specs.Passes.{set_out}
use Rattle.printer.specs.Printing.{printed, weight}
use Rattle.printer.specs.Borrowed.{rows_in}
use Rattle.printer.specs.Rows.{value_at}
use Rattle.merge.proofs.Steps.{pieces_bound, unprinted}
use Rattle.merge.proofs.fill_in.Goals as goal

pub returns-in_err-len : goal.returns-in_err-len
returns-in_err-len g c =
    let m = g.H.Host.meaning c.args.prepared.now.host.now in
    let t = c.args.prepared.now.checked.template.now in
    let v = value_at (rows_in c.bind_all.new.table.rows) in
    let room = length c.args.out.now in
    let q = refusal_of c.in_err-len.field-0.0 in
    let told : Err q ≡ weight (set_out m (bytes_of c.args.prepared.now.survey.contexts) v t room) = search rules in
    let no_text : printed m v t room ≡ Err q = unprinted m v t c.args.prepared.now.survey room q c.args.prepared.now.accepted c.args.prepared.now.contexts told in
    record {
      answer = grind (arith, pieces_bound);
      text = grind (arith, pieces_bound);
    }
