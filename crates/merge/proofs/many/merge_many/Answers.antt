use Rattle.std.proofs.Common.{◌≡◌, length, rules}
use Rattle.merge.specs.Many.{merged_many, many_told, many_weighed, many_written}
use Rattle.merge.proofs.Rows.{many_read}
use Rattle.merge.proofs.many.merge_many.Goals as goal

pub returns-in-Ok-clause-law : goal.returns-in-Ok-clause-law
returns-in-Ok-clause-law g c =
    let a = c.args in
    let m = g.H.Host.meaning a.host.now in
    let t = a.template.template.now in
    let old = a.out.now in
    let done = c.merge_on in
    let said : many_told done.result ≡ many_weighed (merged_many m t a.input.now a.place a.most (length old)) = search rules in
    let is : done.new.out ≡ many_written old (merged_many m t a.input.now a.place a.most (length old)) = search rules in
    many_read m (g.met.H.Host.sound a.host.now) t a.input.now a.place a.most old done.new.out done.result said is
