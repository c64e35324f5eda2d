-- Demand 3: more output room, and what an accepted outcome keeps. The theorems on them stand in proofs/Rooms.
-- Assumes nothing.
use Rattle.std.specs.Prelude.{ℕ, ◌*◌, ◌≤◌, ◌≡◌, List, length, take}
use Rattle.std.proofs.Common.{take_at}
use Rattle.record.specs.Lists.{over}
use Rattle.record.specs.Node.{size}
use Rattle.forest.specs.Lent.{Room, Outcome}
use Rattle.forest.specs.declared.Reply.TheVariants.{Accepted}

-- the second outcome has the reply of the first, and where that accepts n records and k roots, its records, roots and id list
pub record Kept (a b : Outcome) : Type 0 where
  pub reply : b.reply ≡ a.reply
  pub records : (n k : ℕ) → a.reply ≡ Accepted n k → take (size * n) b.room.nodes ≡ take (size * n) a.room.nodes
  pub roots : (n k : ℕ) → a.reply ≡ Accepted n k → take k b.room.roots ≡ take k a.room.roots
  pub ids : (n k : ℕ) → a.reply ≡ Accepted n k → b.room.ids ≡ a.room.ids

-- what is written over the beginning is the beginning
pub take_over : (l new : List ℕ) (k : ℕ) → length new ≡ k → take k (over l 0 new) ≡ new
unfolding over
take_over l new k e = take_at new _ k e

-- neither output is smaller
pub record Roomier (m m' : Room) : Type 0 where
  pub nodes : length m.nodes ≤ length m'.nodes
  pub roots : length m.roots ≤ length m'.roots
