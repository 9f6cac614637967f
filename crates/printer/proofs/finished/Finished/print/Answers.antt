use Rattle.std.proofs.Common.{◌≡◌, ℕ, List, length, ap, ◌∙◌}
use mathlib.Core.Path.{fun_ext}
use Rattle.host.specs.Meaning.{Meaning}
use Rattle.fault.specs.Refusal.{told}
use Rattle.template.specs.Judging.{accepted, verdict}
use Rattle.printer.specs.Calls.{bodies_of, fitting_host}
use Rattle.printer.specs.Printing.{printed, weight, output}
use Rattle.printer.specs.Rows.{value_at}
use Rattle.printer.proofs.Laid.{value_short}
use Rattle.printer.proofs.Linked.{rows_hold}
use Rattle.printer.proofs.Surveyed.{host_takes, reads_back, is_short}
use Rattle.printer.proofs.finished.Finished.print.Goals as goal

pub returns : goal.returns
returns g c =
    let a = c.args in
    let m = g.H.Host.meaning a.sheet.now.host in
    let sound = g.met.H.Host.sound a.sheet.now.host in
    let t = a.self.now.template.now in
    let rows = a.sheet.now.table.rows in
    let v : ℕ → List ℕ = value_at rows in
    let old = a.out.now in
    let new = c.print_surveyed.new.out in
    let r = c.print_surveyed.result in
    let s = c.in_ok-surveyed.field-0 in
    let same : g.H.Host.meaning c.host.result.now ≡ m = ap g.H.Host.meaning c.host.ensures in
    let judged : verdict m t ≡ accepted s.bodies.len (bodies_of s) = host_takes (verdict m t) s.bodies.len (bodies_of s) (c.in_ok-surveyed.ensures ∙ ap (λ (k : Meaning). fitting_host (verdict k t)) same) in
    let is = c.print_surveyed.ensures.law s.bodies.len (bodies_of s) judged (length old) in
    let answer : told r ≡ weight (printed m v t (length old)) = c.print_surveyed.ensures.answer ∙ ap weight is in
    let text : new ≡ output old (printed m v t (length old)) = c.print_surveyed.ensures.text ∙ ap (output old) is in
    record {
      answer = answer;
      text = text;
      reads = reads_back m sound v t old new r answer text;
      short = is_short m sound v t old new r answer text (λ k. value_short rows k a.sheet.now.table.fits);
      slate = λ ss laid. let same = fun_ext (rows_hold rows ss laid) in (answer ∙ ap (λ (u : ℕ → List ℕ). weight (printed m u t (length old))) same, text ∙ ap (λ (u : ℕ → List ℕ). output old (printed m u t (length old))) same);
    }
