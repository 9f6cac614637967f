use Rattle.std.proofs.Common.{◌≡◌, length, refl, rules}
use Rattle.record.proofs.Laws.{reading_undoes_writing}
use Rattle.merge.specs.Answers.{merged_of, weighed, written}
use Rattle.merge.specs.Merging.{merged}
use Rattle.merge.proofs.Laws.{merged_reads}
use Rattle.merge.proofs.merge_under.Goals as goal

pub returns-clause-law : goal.returns-clause-law
returns-clause-law g c =
    let a = c.args in
    let m = g.H.Host.meaning a.host.now in
    let t = a.template.template.now in
    let old = a.out.now in
    let done = c.merge_prepared in
    let said : merged_of done.result ≡ weighed (merged m t a.input.now a.place (length old)) = search rules in
    let is : done.new.out ≡ written old (merged m t a.input.now a.place (length old)) = search rules in
    merged_reads m (g.met.H.Host.sound a.host.now) t a.input.now a.place (length old) (reading_undoes_writing a.input.now a.place) old done.new.out refl done.result said is
