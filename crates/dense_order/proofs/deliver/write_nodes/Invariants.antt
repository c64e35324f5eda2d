use Rattle.dense_order.proofs.Records.{Wrote, moved}
use Rattle.dense_order.proofs.deliver.write_nodes.Given as goal

abbrev pub invariant-loop-k : goal.invariant-loop-k
invariant-loop-k l = Wrote (moved l.nodes l.marks) l.order l.initial.out l.out l.k
