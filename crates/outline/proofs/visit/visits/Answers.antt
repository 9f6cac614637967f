use Rattle.std.proofs.Common.{◌≡◌, [], ◌∷◌, ◌++◌, Some, Ok, vec_items, rules}
use Rattle.template.specs.Walk.{Reads}
use Rattle.outline.specs.declared.visit.Visit.{Visit}
use Rattle.outline.specs.Visits.{passing}
use Rattle.outline.proofs.Walks.{accepted_walks}
use Rattle.outline.proofs.Visited.{visited, visited_sights}
use Rattle.outline.proofs.Sights.{met_more}
use Rattle.outline.proofs.visit.visits.Goals as goal

pub loop-read-init : goal.loop-read-init
loop-read-init g c = search (rules, accepted_walks)

pub loop-read-preserved : goal.loop-read-preserved
loop-read-preserved g c =
    let m = g.H.Host.meaning c.args.host.now in
    let s = c.loop-read.read-iterator in
    let t = c.next.new.self in
    let x = c.in_ok-place.field-0 in
    let visit : Visit = record { place = x.place; context = c.loop-read.context; item = x.item } in
    let read : Reads s (Some (Ok x)) t = search rules in
    let passed : Ok c.in_ok-context.context ≡ passing m c.loop-read.context x.item x.place = search rules in
    let pushed : vec_items c.push.new.self ≡ vec_items c.loop-read.visits ++ (visit ∷ []) = search rules in
    let r = met_more m s t x c.loop-read.context c.in_ok-context.context _ _ (visited m c.args.template.now) read c.loop-read.invariant.2 passed pushed c.loop-read.invariant.3 in
    (search rules, search rules, r.0, r.1)

pub returns : goal.returns
returns g c = search (rules, visited_sights)
