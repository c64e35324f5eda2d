use mathlib.Core.Bool.{◌&&◌}
use mathlib.Core.Path.{◌≡◌}
use Prim.Native.Nat.{max}
use lib.ListN.{drop}
use lib.Dec.{eqb}
use Rattle.record.specs.Lists.{all}
use Rattle.record.proofs.unused_are_zero.Given as goal

abbrev pub invariant-loop-i : goal.invariant-loop-i
invariant-loop-i l = all (eqb 0) (drop l.count l.fn.kids) ≡ (l.zero && all (eqb 0) (drop (max l.i l.count) l.fn.kids))
