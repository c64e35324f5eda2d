use Prim.Native.Nat.{◌/◌, ◌<◌}
use lib.ListN.{length}
use native.Mathlib.Omega.{arith}
use Rattle.record.specs.Node.{size}
use Rattle.dense_order.proofs.Enlisting.{chaining_start, field_is, field_linked, fields_linked}
use Rattle.dense_order.proofs.order.link_kids.Goals as goal
use Rattle.dense_order.proofs.order.link_kids.Goals.{Start}

-- p is a node
in_nodes : (s : Start) → s.args.p < length s.args.nodes.now / size
in_nodes s = let l = s.requires.chained.heads_long in omega (arith, s.requires.p_lt_n)

pub loop-j-init : goal.loop-j-init
loop-j-init c = chaining_start c.requires.chained.fair (in_nodes (goal.at.loop-j-init c).Start) c.requires.chained

pub bounds-heads-child : goal.bounds-heads-child
bounds-heads-child c = (field_is c.requires.chained.fair (in_nodes (goal.at.bounds-heads-child c).Start) c.node_at-node.ensures c.loop-j.invariant c.loop-j-test.true).child

pub bounds-heads-child-in-loop-j : goal.bounds-heads-child-in-loop-j
bounds-heads-child-in-loop-j c = (field_is c.requires.chained.fair (in_nodes (goal.at.bounds-heads-child-in-loop-j c).Start) c.node_at-node.ensures c.loop-j.invariant c.loop-j-test.true).child

pub loop-j-preserved : goal.loop-j-preserved
loop-j-preserved c = field_linked c.requires.chained.fair (in_nodes (goal.at.loop-j-preserved c).Start) c.node_at-node.ensures c.loop-j.invariant c.loop-j-test.true

pub returns : goal.returns
returns c = fields_linked c.requires.chained.fair (in_nodes (goal.at.returns c).Start) c.node_at-node.ensures c.loop-j.invariant c.loop-j-test.false
