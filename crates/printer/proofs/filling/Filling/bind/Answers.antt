use Rattle.std.proofs.Common.{◌≡◌, rules}
use Rattle.template.specs.Judging.{accepted, verdict}
use Rattle.printer.specs.Calls.{bodies_of}
use Rattle.printer.proofs.Surveyed.{host_takes}
use Rattle.printer.proofs.filling.Filling.bind.Goals as goal

pub returns-clause-slate : goal.returns-clause-slate
returns-clause-slate g c =
    let s = c.in_ok-survey.survey in
    let judged : verdict (g.H.Host.meaning c.args.sheet.now.host) c.args.self.now.template.now ≡ accepted s.bodies.len (bodies_of s) = host_takes _ _ _ (search rules) in
    rw judged c.bind_surveyed.ensures.slate
