use Rattle.dense_order.proofs.Filling.{Filled}
use Rattle.merger.specs.Rooms.{moved}
use Rattle.merger.proofs.result.carry.Given as goal

abbrev pub invariant-loop-state : goal.invariant-loop-state
invariant-loop-state l = Filled (moved l.places) l.initial.states l.initial.states l.states l.state-index
