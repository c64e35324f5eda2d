use Rattle.dense_order.specs.Marks.{new_id}
use Rattle.dense_order.proofs.Filling.{Filled}
use Rattle.dense_order.proofs.deliver.write_roots.Given as goal

abbrev pub invariant-loop-i : goal.invariant-loop-i
invariant-loop-i l = Filled (new_id l.marks) l.roots l.initial.out l.out l.i
