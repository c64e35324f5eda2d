use Prim.Native.Nat.{◌/◌}
use lib.Dec.{eqb}
use lib.ListN.{length}
use Rattle.record.specs.Lists.{run}
use Rattle.record.specs.Node.{size, rank, class, node_at}
use Rattle.sorting.proofs.Keeping.{Keeping}
use Rattle.dense_order.proofs.order.list_class.Given as goal

abbrev pub invariant-loop-p : goal.invariant-loop-p
invariant-loop-p l = Keeping (λ q. eqb (rank (class (node_at l.nodes q))) (rank l.class)) (run 0 (length l.nodes / size)) l.initial.list l.list 0 l.count l.p
