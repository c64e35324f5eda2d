use Prim.Native.Nat.{◌/◌, ◌<◌}
use lib.ListN.{length}
use native.Mathlib.Omega.{arith}
use Rattle.record.specs.Node.{size}
use Rattle.dense_order.proofs.Appending.{standing_now, appends}
use Rattle.dense_order.proofs.order.append.Goals as goal
use Rattle.dense_order.proofs.order.append.Goals.{Start}

-- the ids are those of the nodes
in_nodes : (s : Start) → (s.args.p < length s.args.nodes.now / size) × (s.args.filled < length s.args.nodes.now / size)
in_nodes s = let l = s.requires.order_long in (omega (arith, s.requires.p_lt_n.0), omega (arith, s.requires.p_lt_n.1))

pub remove-requires : goal.remove-requires
remove-requires c =
    let k = c.requires.standing.stands.counts in
    record { i_lt_n = omega (arith, k.long, c.requires.order_long, c.requires.p_lt_n.0); tree = rw k.long k.tree }

pub settle-requires-clause-standing : goal.settle-requires-clause-standing
settle-requires-clause-standing c =
    let i = in_nodes (goal.at.settle-requires-clause-standing c).Start in
    let e = rw c.requires.standing.stands.counts.long at c.remove.ensures in
    standing_now c.args.order.now c.requires.standing c.requires.order_long i.0 i.1 c.requires.p_value e

pub returns : goal.returns
returns c =
    let i = in_nodes (goal.at.returns c).Start in
    let e = rw c.requires.standing.stands.counts.long at c.remove.ensures in
    appends c.requires.standing c.requires.order_long i.0 i.1 c.requires.p_value e c.settle.ensures
