use mathlib.Core.Path.{ap, ◌∙◌}
use lib.ListN.{length, length-append}
use native.Mathlib.Omega.{arith}
use Rattle.dense_order.proofs.Keeping.{kept_start, kept_both, kept_all}
use Rattle.dense_order.proofs.order.keep_order.Goals as goal

pub loop-p-init : goal.loop-p-init
loop-p-init c = rw (← c.split_at_mut-order.ensures.value) (kept_start _ _)

pub loop-p-preserved : goal.loop-p-preserved
loop-p-preserved c =
    let s = c.split_at_mut-order.ensures in
    let l = c.loop-p.auto in
    kept_both c.loop-p.order c.loop-p.marks c.loop-p.invariant (l.order ∙ s.front_len) (omega (arith, s.front_len, c.loop-p-test.true)) (omega (arith, ap length s.value, length-append c.split_at_mut-order.result.0.now c.split_at_mut-order.result.1.now, s.front_len, l.marks, c.requires.0))

pub returns : goal.returns
returns c =
    let s = c.split_at_mut-order.ensures in
    kept_all (omega (arith, s.front_len, c.loop-p.auto.p-end)) (omega (arith, s.front_len, c.loop-p-test.false)) c.loop-p.invariant
