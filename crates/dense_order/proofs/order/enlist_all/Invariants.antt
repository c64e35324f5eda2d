use Prim.Native.Nat.{◌/◌}
use lib.ListN.{length}
use Rattle.record.specs.Node.{size}
use Rattle.dense_order.specs.State.{Enlisted}
use Rattle.dense_order.proofs.order.enlist_all.Given as goal

abbrev pub invariant-loop-p : goal.invariant-loop-p
invariant-loop-p l = Enlisted l.nodes l.heads l.links l.counts l.rows (length l.nodes / size) l.p
