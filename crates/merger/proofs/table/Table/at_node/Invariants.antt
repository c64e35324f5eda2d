use Prim.Native.Nat.{◌-◌, ◌/◌}
use lib.ListN.{length}
use Rattle.record.specs.Node.{row_size}
use Rattle.merger.specs.Table.{ToNode}
use Rattle.merger.proofs.table.Table.at_node.Given as goal

abbrev pub invariant-loop-at : goal.invariant-loop-at
invariant-loop-at l = ToNode l.self l.at l.p

abbrev pub decreases-loop-at : goal.decreases-loop-at
decreases-loop-at l = length l.self / row_size - l.at.rows
