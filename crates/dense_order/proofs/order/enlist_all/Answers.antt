use native.Mathlib.Omega.{arith}
use Rattle.dense_order.proofs.Opening.{enlisted_all}
use Rattle.dense_order.proofs.order.enlist_all.Goals as goal

pub loop-p-init : goal.loop-p-init
loop-p-init c = c.requires

pub enlist-requires-clause-enlisted : goal.enlist-requires-clause-enlisted
enlist-requires-clause-enlisted c = c.loop-p.invariant

pub loop-p-preserved : goal.loop-p-preserved
loop-p-preserved c = c.enlist.ensures

pub returns : goal.returns
returns c =
    let n = c.requires.long in
    enlisted_all c.loop-p.invariant (omega (arith, c.loop-p-test.false)) (omega (arith, c.loop-p.auto.p-end))
