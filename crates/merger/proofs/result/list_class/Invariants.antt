use lib.Dec.{eqb}
use Rattle.record.specs.Node.{node_at, rank, class}
use Rattle.merger.proofs.Classing.{Classing}
use Rattle.merger.proofs.result.list_class.Given as goal

abbrev pub invariant-loop-source : goal.invariant-loop-source
invariant-loop-source l = Classing (λ q. eqb (rank (class (node_at l.nodes q))) (rank l.class)) l.sources l.initial.order l.order l.count l.source-index
