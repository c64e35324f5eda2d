use Rattle.dense_order.proofs.Records.{Wrote}
use Rattle.merger.specs.Walking.{merged_at}
use Rattle.merger.proofs.deliver.write_nodes.Given as goal

abbrev pub invariant-loop-j : goal.invariant-loop-j
invariant-loop-j l = Wrote (merged_at l.nodes l.bases l.states) l.order l.initial.out l.out l.j
