use mathlib.Core.Path.{◌≡◌}
use Rattle.room.specs.Sections.{span}
use Rattle.dense_order.proofs.Repeats.{Unlike}
use Rattle.dense_order.proofs.ranges.repeated.Given as goal

abbrev pub invariant-loop-pair : goal.invariant-loop-pair
invariant-loop-pair l = (l.pair-iterator.size ≡ 2) × Unlike l.nodes (span l.work 0 l.count) l.pair-iterator.rest.now
