use Rattle.std.proofs.Common.{◌≡◌, Some, Ok, length-take, refl, arith, rules}
use Rattle.gabirong.proofs.Places.{fits, moves_on}
use Rattle.gabirong.proofs.merging.Merging.merge_at.Goals as goal
use Rattle.gabirong.proofs.merging.Merging.merge_at.Goals.{in-Some+in_ok-write_all, in_default}

pub slice_bounds-write_all-end : goal.slice_bounds-write_all-end
slice_bounds-write_all-end g c =
    let m = c.in-Some.merged in
    let is : c.merge.result ≡ Ok (Some m) = search rules in
    let answer = rw is at c.merge.ensures.answer in
    let fit = fits (Some m) m _ _ _ answer c.merge.ensures.text refl in
    omega (arith, length-take m.len c.deref.result.now)

pub returns-clause-place : goal.returns-clause-place
returns-clause-place g c =
    elim c.match-merged.branch [
      | in-Some+in_ok-write_all w ↦
          let is : c.merge.result ≡ Ok (Some w.in-Some.merged) = search rules in
          let law = rw is at c.merge.ensures.law in
          let on = moves_on _ _ _ _ _ (Some w.in-Some.merged) w.in-Some.merged law refl in
          search rules
      | in_default w ↦ search rules
    ]
