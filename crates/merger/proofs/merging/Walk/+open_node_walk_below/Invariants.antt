use Rattle.merger.proofs.Taking.{Taking}
use Prim.Native.Nat.{◌+◌, ◌*◌}
use Rattle.merger.proofs.merging.Walk.+open_node_walk_below.Given as goal

abbrev pub decreases-open_node : goal.decreases-open_node
decreases-open_node l = 2 * l.left

abbrev pub decreases-walk_below : goal.decreases-walk_below
decreases-walk_below l = 2 * l.left + 1

abbrev pub invariant-walk_below-loop-i : goal.invariant-walk_below-loop-i
invariant-walk_below-loop-i l = Taking l.initial.self l.self l.p l.left l.count l.merged l.i l.children
