use Rattle.dense_order.proofs.ChildRange.{Near}
use Rattle.dense_order.proofs.ranges.far_child.Given as goal

abbrev pub invariant-loop-i : goal.invariant-loop-i
invariant-loop-i l = Near l.nodes l.i
