use Rattle.record.proofs.Renumbers.{Renumbering}
use Rattle.record.proofs.renumbered.Given as goal

abbrev pub invariant-loop-i : goal.invariant-loop-i
invariant-loop-i g l = Renumbering (goal.F-post g l.f) l.node l.kid-items l.i
