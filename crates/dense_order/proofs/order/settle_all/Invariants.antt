use Prim.Native.Nat.{◌/◌}
use lib.ListN.{length}
use Rattle.record.specs.Node.{size}
use Rattle.dense_order.specs.State.{Standing}
use Rattle.dense_order.proofs.order.settle_all.Given as goal

abbrev pub invariant-loop-t : goal.invariant-loop-t
invariant-loop-t l = Standing l.nodes l.order l.mentions.heads.now l.mentions.links.now l.counts l.rows (length l.nodes / size) l.t
