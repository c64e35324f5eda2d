use native.Mathlib.Omega.{arith}
use lib.ListN.{drop, length-drop}
use Rattle.room.proofs.Writes.{puts_paste}
use Rattle.room.specs.Sections.{span}
use Rattle.room.proofs.copy.Goals as goal

pub returns : goal.returns
unfolding span
returns c =
    let a = c.args in
    let r = c.requires in
    let w = a.work.now in
    puts_paste (drop a.from w) w _ a.to a.count _ c.copy_within.ensures.after (omega arith) (omega (arith, length-drop a.from w, r.count_in_bounds)) r.count_in_bounds_2
