use lib.ListN.{length}
use Rattle.record.specs.Lists.{run}
use Rattle.dense_order.specs.Marks.{new_id}
use Rattle.dense_order.proofs.Filling.{Filled}
use Rattle.dense_order.proofs.deliver.write_ids.Given as goal

abbrev pub invariant-loop-p : goal.invariant-loop-p
invariant-loop-p l = Filled (new_id l.marks) (run 0 (length l.marks)) l.initial.ids l.ids l.p
