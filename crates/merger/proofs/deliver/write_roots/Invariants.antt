use lib.ListN.{length}
use Rattle.room.proofs.Writes.{Putting}
use Rattle.merger.proofs.deliver.write_roots.Given as goal

abbrev pub invariant-loop-i : goal.invariant-loop-i
invariant-loop-i l = Putting l.starts l.initial.out l.out 0 (length l.starts) l.i
