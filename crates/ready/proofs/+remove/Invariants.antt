use Rattle.ready.proofs.+remove.Given as goal

abbrev pub decreases-remove : goal.decreases-remove
decreases-remove l = l.n
