use mathlib.Core.List.{◌++◌}
use Rattle.dense_order.specs.Kinds.{Kept}
use Rattle.dense_order.proofs.order.keep_order.Given as goal

abbrev pub invariant-loop-p : goal.invariant-loop-p
invariant-loop-p l = Kept l.fn.work (l.order ++ l.marks) l.n l.p
