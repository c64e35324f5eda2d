use Rattle.merger.proofs.Likes.{Matching}
use Rattle.merger.proofs.merging.same_children.Given as goal

abbrev pub invariant-loop-i : goal.invariant-loop-i
invariant-loop-i l = Matching l.left l.right l.count l.i
