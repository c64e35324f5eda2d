use mathlib.Core.Path.{◌≡◌, sym, ◌∙◌}
use mathlib.Core.Bool.{true}
use native.Mathlib.Omega.{arith}
use lib.Dec.{eqb}
use lib.ListN.{get_or}
use Rattle.record.specs.Node.{node_at, rank, class}
use Rattle.record.proofs.Classes.{class_read, class_other, class_same}
use Rattle.sorting.proofs.Elements.{listed_node}
use Rattle.merger.specs.Rooms.{classed}
use Rattle.merger.proofs.Classing.{classing_start, classing_past, classing_room, classing_on, classing_end}
use Rattle.merger.proofs.result.list_class.Goals as goal
use Rattle.merger.proofs.result.list_class.Goals.{Else-ne}

own : (c : Else-ne) → eqb (rank (class (node_at c.args.nodes.now (get_or c.args.sources.now c.loop-source.source-index 0)))) (rank c.args.class) ≡ true
own c = rw (← class_read (node_at c.args.nodes.now (get_or c.args.sources.now c.loop-source.source-index 0)) c.kind_at.ensures c.class_of.ensures) (class_same _ _ (sym c.ne.ensures ∙ c.if-ne.false))

pub loop-source-init : goal.loop-source-init
loop-source-init c = classing_start _ _ _

pub kind_at-requires : goal.kind_at-requires
kind_at-requires c = omega (arith, listed_node _ _ _ c.requires.listed c.loop-source-test.true)

pub loop-source-preserved-then-ne : goal.loop-source-preserved-then-ne
loop-source-preserved-then-ne c =
    classing_past
    c.loop-source.invariant
    c.loop-source-test.true
    (rw (← class_read (node_at c.args.nodes.now (get_or c.args.sources.now c.loop-source.source-index 0)) c.kind_at.ensures c.class_of.ensures) (class_other _ _ (sym c.ne.ensures ∙ c.if-ne.true)))

pub bounds-order-count : goal.bounds-order-count
unfolding classed
bounds-order-count c = omega (arith, classing_room c.loop-source.invariant c.loop-source-test.true c.requires.room (own c))

pub loop-source-preserved : goal.loop-source-preserved
unfolding classed
loop-source-preserved c = classing_on c.loop-source.invariant c.loop-source-test.true c.requires.room (own c)

pub returns : goal.returns
unfolding classed
returns c = classing_end c.loop-source.invariant c.loop-source-test.false
