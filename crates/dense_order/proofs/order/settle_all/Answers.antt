use mathlib.Core.Path.{◌≡◌}
use lib.ListN.{length}
use native.Mathlib.Omega.{arith}
use Rattle.dense_order.proofs.order.settle_all.Goals as goal

pub loop-t-init : goal.loop-t-init
loop-t-init c = c.requires

pub settle-requires-clause-standing : goal.settle-requires-clause-standing
settle-requires-clause-standing c = c.loop-t.invariant

pub loop-t-preserved : goal.loop-t-preserved
loop-t-preserved c = c.settle.ensures

pub returns : goal.returns
returns c =
    let z : c.loop-t.t ≡ length c.args.order.now = (let y = c.loop-t.invariant.upto in omega arith) in
    rw z at c.loop-t.invariant
