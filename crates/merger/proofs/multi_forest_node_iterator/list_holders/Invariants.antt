use mathlib.Core.Bool.{not}
use Rattle.record.specs.Lists.{run}
use Rattle.record.specs.Node.{node_at, is_external}
use Rattle.sorting.proofs.Keeping.{Keeping}
use Rattle.merger.proofs.multi_forest_node_iterator.list_holders.Given as goal

abbrev pub invariant-loop-p : goal.invariant-loop-p
invariant-loop-p l = Keeping (λ q. not (is_external (node_at l.nodes q))) (run 0 l.n) l.initial.list l.list 0 l.count l.p
