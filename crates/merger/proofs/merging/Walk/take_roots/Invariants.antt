use Rattle.merger.proofs.Rooting.{Rooting}
use Rattle.merger.proofs.merging.Walk.take_roots.Given as goal

abbrev pub invariant-loop-k : goal.invariant-loop-k
invariant-loop-k l = Rooting l.table l.roots l.initial.self l.self l.limit l.at l.merged l.k
