-- The lowest place of a root at or past n.
-- Assumes nothing.
use Prim.Native.Nat.{ℕ}
use mathlib.Core.Path.{◌≡◌}
use mathlib.Core.Bool.{not}
use mathlib.Core.List.{List, map, append-nil}
use lib.Dec.{ltb}
use lib.ListN.{length}
use Rattle.record.specs.Lists.{flat}
use Rattle.record.specs.declared.Node.{Node}
use Rattle.forest.specs.Lists.{lowest}
use Rattle.forest.specs.Graph.{far_root}
use Rattle.forest.specs.Canonicalize.{alone}

-- of one forest: the lowest place of a root that is not below the number of nodes
pub far_root_is : (g : List Node) (rs : List ℕ) → far_root (alone g rs) ≡ lowest not (map (λ x. ltb x (length g)) rs)
unfolding far_root alone flat
far_root_is g rs = rw append-nil
