use Rattle.dense_order.proofs.Marking.{Marking}
use Rattle.dense_order.proofs.deliver.mark_places.Given as goal

abbrev pub invariant-loop-k : goal.invariant-loop-k
invariant-loop-k l = Marking l.id-items l.initial.marks l.marks l.n l.k
