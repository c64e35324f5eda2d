use Rattle.dense_order.proofs.Faults.{Ordered}
use Rattle.dense_order.proofs.validate_dense_node_order.Given as goal

abbrev pub invariant-loop-i : goal.invariant-loop-i
invariant-loop-i l = Ordered l.nodes l.i
