-- Steps 4 and 5 in the work room: the canonical order of the merged nodes, ids carried through it, and the roots.
-- Assumes nothing: these are definitions.
use Rattle.std.specs.Prelude.{ℕ, ◌+◌, ◌<◌, ◌≤◌, ◌≡◌, length, get_or, Option, Some, None}
use mathlib.Core.List.{List, [], map, Memᴰ}
use Rattle.record.specs.Lists.{over, flat}
use Rattle.record.specs.Node.{node_bytes}
use Rattle.record.specs.declared.Node.{Node}
use Rattle.forest.specs.Lists.{firsts}
use Rattle.forest.specs.Merge.{carried, merged}
use Rattle.forest.specs.Order.{order, place_in}
use Rattle.forest.specs.Walk.{State, id_in}
use Rattle.claims.specs.Sound.{Finished}
use Rattle.room.specs.Sections.{span}
use Rattle.merger.specs.Sections.{order_at, starts_at}
use Rattle.merger.specs.Walking.{MappedIn, Fine, Source, Ended}

-- the word of a position once its id is carried through the order o: 2 more than its new id, or 0
unfoldable pub carried_word : List ℕ → Option ℕ → ℕ
carried_word o None = 0
carried_word o (Some i) = place_in o i + 2

-- a walk has ended here, and the positions ps are finished
pub record Over (s w : List ℕ) (n m : ℕ) (ps : List ℕ) : Type 0 where
  pub graph : List Node
  pub state : State
  pub ended : Ended s w n m graph state
  pub roots : (x : ℕ) → Memᴰ x ps → Finished state x

-- the sources of the m merged nodes stand in the order, every id is carried through it, and the count roots are listed
pub record Settled (s w : List ℕ) (n m count : ℕ) (g : List Node) (ps : List ℕ) (t : State) : Type 0 where
  pub mapped : MappedIn s w n g
  pub fine : Fine g n [] t
  pub nodes : m ≡ length (order t.merged)
  pub few : m ≤ n
  pub sources : (j : ℕ) → j < m → Source g t (get_or w (order_at n + j) 0) (get_or (order t.merged) j 0)
  pub ids : (p : ℕ) → p < n → get_or w p 0 ≡ carried_word (order t.merged) (id_in t.done p)
  pub roots : span w (starts_at n) (starts_at n + count) ≡ firsts [] (map (carried t (order t.merged)) ps)
  pub listed : count ≡ length (firsts [] (map (carried t (order t.merged)) ps))
  pub less : count ≤ n

-- such a room
pub record Result (s w : List ℕ) (n m count : ℕ) : Type 0 where
  pub graph : List Node
  pub starts : List ℕ
  pub state : State
  pub settled : Settled s w n m count graph starts state

-- the outputs hold the result, and what they held behind it
pub record Delivered (g : List Node) (ps : List ℕ) (t : State) (a a' b b' c' : List ℕ) : Type 0 where
  pub nodes : a' ≡ over a 0 (flat node_bytes (merged g ps t).nodes)
  pub roots : b' ≡ over b 0 (merged g ps t).roots
  pub ids_are : c' ≡ (merged g ps t).ids
