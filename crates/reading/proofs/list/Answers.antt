use Rattle.std.proofs.Common.{sym, rules}
use Rattle.reading.proofs.Lists.{listing_refused, listing_unfit, listing_fits}
use Rattle.reading.proofs.Stuck.{refused_rightly}
use Rattle.reading.proofs.list.Goals as goal

pub returns-then-text-gt-MOST-clause-place : goal.returns-then-text-gt-MOST-clause-place
returns-then-text-gt-MOST-clause-place g c = refused_rightly _ _

pub returns-in_err-needed : goal.returns-in_err-needed
returns-in_err-needed g c =
    let l = listing_refused (g.H.Host.meaning c.args.host.now) c.args.text.now c.args.out.now c.if-text-gt-MOST.false _ (sym c.in_err-needed.ensures.result) in
    record { result = rw l (search rules); output = rw l; place = refused_rightly _ _ }

pub returns-then-needed-out : goal.returns-then-needed-out
returns-then-needed-out g c =
    let l = listing_unfit (g.H.Host.meaning c.args.host.now) c.args.text.now c.args.out.now c.if-text-gt-MOST.false _ (sym c.in_ok-needed.ensures.result) c.if-needed-out.true in
    record { result = rw l; output = rw l; place = refused_rightly _ _ }

pub returns : goal.returns
returns g c =
    let l = listing_fits (g.H.Host.meaning c.args.host.now) c.args.text.now c.args.out.now c.if-text-gt-MOST.false (g.met.H.Host.sound c.args.host.now) _ (sym c.in_ok-needed.ensures.result) c.if-needed-out.false in
    record { result = rw (l.listed, l.long, c.walk-2.ensures.result, ← c.in_ok-needed.ensures.result); output = rw (l.listed, c.walk-2.ensures.output) l.comes; place = refused_rightly _ _ }
