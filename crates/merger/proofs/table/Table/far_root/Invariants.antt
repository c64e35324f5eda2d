use Rattle.merger.specs.Table.{ToRoot}
use Rattle.merger.proofs.RootRanges.{Inside}
use Rattle.merger.proofs.table.Table.far_root.Given as goal

abbrev pub invariant-loop-k : goal.invariant-loop-k
invariant-loop-k l = ToRoot l.self l.at l.k × Inside l.self l.roots l.k
