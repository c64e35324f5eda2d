-- Laws of carrying the id of each position through the order.
-- Assumes nothing.
use Prim.Native.Nat.{ℕ, ◌+◌, ◌-◌, ◌<◌, ◌≤◌}
use mathlib.Core.Path.{◌≡◌, ◌∙◌, ap}
use mathlib.Core.List.{List}
use Rattle.std.proofs.lemmas.Bool.{lt-ltb, le-ltb}
use lib.ListN.{length, get_or, set}
use Rattle.dense_order.proofs.Filling.{Filled, filled_here, filled_step}
use Rattle.merger.specs.Rooms.{moved}

pub moved_low : (l : List ℕ) (v : ℕ) → v < 2 → v ≡ moved l v
unfolding moved
moved_low l v h = rw (lt-ltb v 2 h, moved)

pub moved_high : (l : List ℕ) (v : ℕ) → 2 ≤ v → get_or l (v - 2) 0 + 2 ≡ moved l v
unfolding moved
moved_high l v h = rw (le-ltb v 2 h, moved)

-- the state that is written in the place of one read from the same list
pub moving : (l : List ℕ) {w₀ w : List ℕ} {p y : ℕ} → Filled (moved l) w₀ w₀ w p → p < length w₀ → y ≡ moved l (get_or w p 0) → Filled (moved l) w₀ w₀ (set w p y) (p + 1)
moving l r h e = filled_step r h (e ∙ ap (moved l) (filled_here r h))
