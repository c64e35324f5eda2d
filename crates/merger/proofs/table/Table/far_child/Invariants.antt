use mathlib.Core.Path.{◌≡◌}
use Prim.Native.Nat.{◌/◌}
use lib.ListN.{length}
use Rattle.record.specs.Node.{size}
use Rattle.merger.specs.Table.{ToNode}
use Rattle.merger.proofs.ChildRanges.{Near}
use Rattle.merger.proofs.table.Table.far_child.Given as goal

abbrev pub invariant-loop-p : goal.invariant-loop-p
invariant-loop-p l = (l.n ≡ length l.nodes / size) × ToNode l.self l.at l.p × Near l.self l.nodes l.p
