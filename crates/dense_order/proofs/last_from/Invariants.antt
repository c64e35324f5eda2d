use Rattle.dense_order.proofs.Last.{Among}
use Rattle.dense_order.proofs.last_from.Given as goal

abbrev pub invariant-loop-i : goal.invariant-loop-i
invariant-loop-i l = Among l.n l.low l.i
