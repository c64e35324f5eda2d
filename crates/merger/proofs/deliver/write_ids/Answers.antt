use Rattle.dense_order.proofs.Filling.{filled_step}
use Rattle.merger.proofs.deliver.write_ids.Goals as goal
use native.Mathlib.Omega.{arith}

pub loop-p-preserved : goal.loop-p-preserved
loop-p-preserved c = filled_step c.loop-p.invariant (omega arith) c.shown.ensures
