use Rattle.std.proofs.Common.{◌≤◌, length}
use Rattle.cases.proofs.text.read_nodes.Given as goal

abbrev pub invariant-loop-place : goal.invariant-loop-place
invariant-loop-place l =
    (goal.iterator-loop-place).can_next l.place-iterator ×
    (goal.iterator-loop-place).is_finite l.place-iterator ×
    (l.n ≤ length l.yielded)
