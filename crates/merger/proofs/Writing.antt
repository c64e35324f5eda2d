-- Laws of the loops that write nodes, roots and ids.
-- Assumes nothing.
use Prim.Native.Nat.{ℕ, ◌+◌, ◌-◌, ◌<◌, ◌≤◌}
use mathlib.Core.Path.{◌≡◌, refl}
use mathlib.Core.List.{List, ◌++◌}
use native.Mathlib.Omega.{arith}
use borrow.Author.Tests.{lt-ltb, le-ltb}
use lib.ListN.{length, drop}
use Rattle.record.specs.Lists.{over}
use Rattle.record.specs.Node.{node_at}
use Rattle.record.proofs.Lengths.{Full}
use Rattle.record.proofs.Nodes.{full_read, full_renumber}
use Rattle.forest.specs.Lent.{no_id}
use Rattle.merger.specs.Rooms.{shown_as}
use Rattle.merger.specs.Walking.{merged_at}

-- what the id list says for a word
pub shown_none : (v : ℕ) → v < 2 → no_id ≡ shown_as v
unfolding shown_as
shown_none v h = rw (lt-ltb v 2 h, shown_as)

pub shown_id : (v : ℕ) → 2 ≤ v → v - 2 ≡ shown_as v
unfolding shown_as
shown_id v h = rw (le-ltb v 2 h, shown_as)

-- what is written into the beginning
pub front_over : (l w : List ℕ) → l ++ drop (length l) w ≡ over w 0 l
unfolding over
front_over l w = let z : 0 + length l ≡ length l = omega arith in rw z refl

-- the merged node at a source is a whole node
pub merged_full : (s b v : List ℕ) (p : ℕ) → Full (merged_at s b v p)
unfolding merged_at
merged_full s b v p = full_renumber _ (node_at s p) (full_read s p)
