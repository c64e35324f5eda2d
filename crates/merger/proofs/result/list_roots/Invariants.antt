use lib.ListN.{length}
use Rattle.merger.proofs.Mentioning.{Mentioning}
use Rattle.merger.proofs.result.list_roots.Given as goal

abbrev pub invariant-loop-k : goal.invariant-loop-k
invariant-loop-k l = Mentioning l.table l.roots l.states l.listed l.starts (length l.initial.listed) l.at l.count l.k
