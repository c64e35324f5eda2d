-- The table's rows: sums over the first of them, places between them, and the roots as positions.
-- Assumes nothing: these are definitions.
use Rattle.std.specs.Prelude.{ℕ, zero, suc, ◌+◌, ◌-◌, ◌/◌, ◌<◌, ◌≤◌, ◌≡◌, List, [], map, length, take, get_or}
use Rattle.record.specs.Node.{row_size, rows_of, renumber}
use Rattle.record.specs.declared.Node.{Node}
use Rattle.record.specs.declared.Row.{Row}
use Rattle.forest.specs.Graph.{forests, joined, joined_roots, at}
use Rattle.forest.specs.Lists.{sum}
use Rattle.forest.specs.Merge.{most_forests}
use Rattle.merger.specs.declared.table.Cursor.{Cursor}

-- how many nodes and how many roots the first i rows have
unfoldable pub nodes_before : List Row → ℕ → ℕ
nodes_before rows i = sum (map (λ r. r.nodes) (take i rows))

unfoldable pub roots_before : List Row → ℕ → ℕ
roots_before rows i = sum (map (λ r. r.roots) (take i rows))

-- the place behind the first i rows
unfoldable pub place_at : List Row → ℕ → Cursor
place_at rows zero = record { rows = 0; base = 0; nodes = 0; roots = 0 }
place_at rows (suc i) = record { rows = suc i; base = nodes_before rows i; nodes = nodes_before rows (suc i); roots = roots_before rows (suc i) }

-- the table has no more rows than there may be forests
abbrev pub Few : List ℕ → Type 0
Few t = length t / row_size ≤ most_forests

-- what is true of a table that is gone through: it is that short, and its entries are bytes
pub record Legible (t : List ℕ) : Type 0 where
  pub few : Few t
  pub octets : (j : ℕ) → get_or t j 0 < 256

-- c is a place of the table
pub record On (t : List ℕ) (c : Cursor) : Type 0 where
  pub within : c.rows ≤ length t / row_size
  pub is : c ≡ place_at (rows_of t) c.rows

-- c is a place of the table that is not past the forest of position p
pub record ToNode (t : List ℕ) (c : Cursor) (p : ℕ) : Type 0 where
  pub on : On t c
  pub low : c.base ≤ p

-- c is a place of the table that is not past the forest of root k
pub record ToRoot (t : List ℕ) (c : Cursor) (k : ℕ) : Type 0 where
  pub on : On t c
  pub low : roots_before (rows_of t) (c.rows - 1) ≤ k

-- all roots, as positions: the nodes do not matter
unfoldable pub starts : List ℕ → List ℕ → List ℕ
starts t rs = joined_roots (forests 0 (rows_of t) [] rs)

-- c is the place behind the forest of position p
pub record AtNode (t : List ℕ) (c : Cursor) (p : ℕ) : Type 0 where
  pub toward : ToNode t c p
  pub high : p < c.nodes

-- c is the place behind the forest of root k
pub record AtRoot (t : List ℕ) (c : Cursor) (k : ℕ) : Type 0 where
  pub toward : ToRoot t c k
  pub high : k < c.roots

-- b has for each position the first position of its forest
pub record Bases (t b : List ℕ) : Type 0 where
  pub bases : (ns : List Node) (rs : List ℕ) → length ns ≡ length b → (p : ℕ) → p < length b → at (joined (forests 0 (rows_of t) ns rs)) p ≡ renumber (λ c. get_or b p 0 + c) (at ns p)
