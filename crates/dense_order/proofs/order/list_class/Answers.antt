use Prim.Native.Nat.{◌+◌}
use native.Mathlib.Omega.{arith}
use mathlib.Core.Path.{◌≡◌, sym, ◌∙◌}
use Rattle.record.specs.Node.{node_at}
use Rattle.record.proofs.Classes.{class_read, class_other, class_same}
use Rattle.sorting.proofs.Keeping.{keeping_start, numbers_past, numbers_on}
use Rattle.dense_order.proofs.Gathering.{gathered}
use Rattle.dense_order.proofs.order.list_class.Goals as goal

pub loop-p-init : goal.loop-p-init
loop-p-init c = keeping_start _ _ _ _

pub loop-p-preserved-then-ne : goal.loop-p-preserved-then-ne
loop-p-preserved-then-ne c = numbers_past c.loop-p.invariant c.loop-p-test.true (rw (← class_read (node_at c.args.nodes.now c.loop-p.p) c.kind_at.ensures c.class_of.ensures) (class_other _ _ (sym c.ne.ensures ∙ c.if-ne.true)))

pub loop-p-preserved : goal.loop-p-preserved
loop-p-preserved c =
    let z : 0 + c.loop-p.count ≡ c.loop-p.count = omega arith in
    rw z at (numbers_on c.loop-p.invariant c.loop-p-test.true (omega (arith, c.requires.fits)) (rw (← class_read (node_at c.args.nodes.now c.loop-p.p) c.kind_at.ensures c.class_of.ensures) (class_same _ _ (sym c.ne.ensures ∙ c.if-ne.false))))

pub returns : goal.returns
returns c = gathered _ c.requires c.loop-p.invariant c.loop-p-test.false
