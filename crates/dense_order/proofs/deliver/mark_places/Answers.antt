use native.Mathlib.Omega.{arith}
use Rattle.dense_order.proofs.Marking.{markable, marking_start, marking_below, marking_step, marking_end}
use Rattle.dense_order.proofs.deliver.mark_places.Goals as goal

pub loop-k-init : goal.loop-k-init
loop-k-init c = let s = c.split_at_mut-order.ensures in marking_start (markable _ _ c.requires s.value s.front_len)

pub bounds-marks-id : goal.bounds-marks-id
bounds-marks-id c =
    let s = c.split_at_mut-order.ensures in
    let a = markable _ _ c.requires s.value s.front_len in
    omega (arith, a.fits, marking_below a c.loop-k-test.true)

pub loop-k-preserved : goal.loop-k-preserved
loop-k-preserved c = let s = c.split_at_mut-order.ensures in marking_step (markable _ _ c.requires s.value s.front_len) c.loop-k-test.true c.loop-k.invariant

pub returns : goal.returns
returns c = let s = c.split_at_mut-order.ensures in marking_end _ _ c.requires s.value s.front_len c.loop-k.invariant c.loop-k-test.false
