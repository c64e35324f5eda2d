use Rattle.dense_order.proofs.Filling.{Filled}
use Rattle.merger.specs.Rooms.{shown_as}
use Rattle.merger.proofs.deliver.write_ids.Given as goal

abbrev pub invariant-loop-p : goal.invariant-loop-p
invariant-loop-p l = Filled shown_as l.states l.initial.ids l.ids l.p
