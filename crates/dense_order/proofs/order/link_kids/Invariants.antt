use Prim.Native.Nat.{◌/◌}
use lib.ListN.{length}
use Rattle.record.specs.Node.{size}
use Rattle.dense_order.proofs.Enlisting.{Chaining}
use Rattle.dense_order.proofs.order.link_kids.Given as goal

abbrev pub invariant-loop-j : goal.invariant-loop-j
invariant-loop-j l = Chaining l.nodes l.heads l.links (length l.nodes / size) l.p l.j
