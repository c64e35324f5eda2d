use lib.ListN.{length, take, get_or}
use Prim.Native.Nat.{◌/◌}
use Rattle.record.specs.Node.{size}
use Rattle.dense_order.proofs.Settling.{Settling}
use Rattle.dense_order.proofs.order.settle.Given as goal

abbrev pub invariant-loop-at : goal.invariant-loop-at
invariant-loop-at l = Settling l.nodes l.counts l.rows (length l.nodes / size) l.order (take l.t l.order) (get_or l.order l.t 0) l.at

abbrev pub decreases-loop-at : goal.decreases-loop-at
decreases-loop-at l = l.at
