use Rattle.dense_order.proofs.Faults.{Ordered}
use Rattle.dense_order.proofs.Lowest.{Seeking}
use Rattle.dense_order.proofs.validate_records.Given as goal

abbrev pub invariant-loop-i : goal.invariant-loop-i
invariant-loop-i l = Seeking l.nodes l.i × Ordered l.nodes l.i
