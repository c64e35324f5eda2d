use Prim.Native.Nat.{◌/◌}
use lib.ListN.{length}
use Rattle.record.specs.Node.{size}
use Rattle.dense_order.proofs.Releasing.{Releasing}
use Rattle.dense_order.proofs.order.release.Given as goal

abbrev pub invariant-loop-filled : goal.invariant-loop-filled
invariant-loop-filled l = Releasing l.nodes l.order l.mentions.heads.now l.mentions.links.now l.counts l.rows (length l.nodes / size) l.begun l.filled
