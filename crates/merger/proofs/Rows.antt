-- Places between the table's rows: what a place says, the place one row further on, and that its numbers fit.
-- Assumes nothing.
use Prim.Native.Nat.{ℕ, zero, suc, ◌+◌, ◌-◌, ◌*◌, ◌/◌, ◌<◌, ◌≤◌}
use mathlib.Core.Path.{◌≡◌, refl, ◌∙◌, ap}
use mathlib.Core.List.{List}
use native.Mathlib.Omega.{arith}
use native.Mathlib.Decide.{dec_lt}
use native.Mathlib.Numerals.{add-one}
use lib.ListN.{length, get_or}
use Rattle.record.specs.Node.{row_size, row_at, rows_of}
use Rattle.record.specs.declared.Row.{Row}
use Rattle.forest.specs.Lists.{sum}
use Rattle.forest.specs.Merge.{node_sum, root_sum}
use Rattle.merger.specs.Table.{nodes_before, roots_before, place_at, On}
use Rattle.merger.specs.declared.table.Cursor.{Cursor}
use Rattle.merger.proofs.Sums.{before, before_next, before_all, before_fits, length_rows_of, row_is, row_nodes, row_roots}
use Rattle.merger.proofs.Cuts.{node_count, root_count}

place_nodes : (rows : List Row) (i : ℕ) → (place_at rows i).nodes ≡ before node_count rows i
unfolding place_at nodes_before sum
place_nodes rows zero = refl
place_nodes rows (suc i) = refl

place_roots : (rows : List Row) (i : ℕ) → (place_at rows i).roots ≡ before root_count rows i
unfolding place_at roots_before sum
place_roots rows zero = refl
place_roots rows (suc i) = refl

place_base : (rows : List Row) (i : ℕ) → (place_at rows i).base ≡ before node_count rows (i - 1)
unfolding place_at nodes_before sum
place_base rows zero = refl
place_base rows (suc i) = let e : suc i - 1 ≡ i = omega arith in rw e

pub on_start : (t : List ℕ) → On t (record { rows = 0; base = 0; nodes = 0; roots = 0 })
unfolding place_at
on_start t = record { within = omega arith; is = refl }

-- what a place says
module _ (t : List ℕ) (c : Cursor) (on : On t c) where
  pub on_nodes : c.nodes ≡ before node_count (rows_of t) c.rows
  on_nodes = ap (λ (x : Cursor). x.nodes) on.is ∙ place_nodes (rows_of t) c.rows

  pub on_roots : c.roots ≡ before root_count (rows_of t) c.rows
  on_roots = ap (λ (x : Cursor). x.roots) on.is ∙ place_roots (rows_of t) c.rows

  pub on_base : c.base ≡ before node_count (rows_of t) (c.rows - 1)
  on_base = ap (λ (x : Cursor). x.base) on.is ∙ place_base (rows_of t) c.rows

  -- behind the last row stand the sums
  pub on_last : length t / row_size ≤ c.rows → (c.nodes ≡ node_sum t) × (c.roots ≡ root_sum t)
  unfolding node_sum root_sum
  on_last h =
      let l = length_rows_of t in
      (on_nodes ∙ before_all node_count (rows_of t) c.rows (omega arith), on_roots ∙ before_all root_count (rows_of t) c.rows (omega arith))

  -- so a position or a root that lies further on has a row
  pub on_node_row : (p : ℕ) → c.nodes ≤ p → p < node_sum t → c.rows < length t / row_size
  on_node_row p h k = go (dec_lt c.rows (length t / row_size))
    where
      go : Dec (c.rows < length t / row_size) → c.rows < length t / row_size
      go (yes q) = q
      go (no q) = absurd (let z = (on_last (omega arith)).0 in omega arith)

  pub on_root_row : (k : ℕ) → c.roots ≤ k → k < root_sum t → c.rows < length t / row_size
  on_root_row k h m = go (dec_lt c.rows (length t / row_size))
    where
      go : Dec (c.rows < length t / row_size) → c.rows < length t / row_size
      go (yes q) = q
      go (no q) = absurd (let z = (on_last (omega arith)).1 in omega arith)

  -- the sums fit, for a row has numbers of four bytes
  module _ (byte : (j : ℕ) → get_or t j 0 < 256) where
    pub on_nodes_fit : c.nodes ≤ 4294967296 * c.rows
    on_nodes_fit =
        let l = length_rows_of t in
        let w = on.within in
        let k = before_fits node_count (rows_of t) (λ j h. rw (row_is t j (omega arith)) (row_nodes t byte j)) c.rows (omega arith) in
        omega (arith, on_nodes)

    pub on_roots_fit : c.roots ≤ 4294967296 * c.rows
    on_roots_fit =
        let l = length_rows_of t in
        let w = on.within in
        let k = before_fits root_count (rows_of t) (λ j h. rw (row_is t j (omega arith)) (row_roots t byte j)) c.rows (omega arith) in
        omega (arith, on_roots)

  -- one row further on
  module _ (h : c.rows < length t / row_size) where
    next_nodes : before node_count (rows_of t) (suc c.rows) ≡ c.nodes + (row_at t c.rows).nodes
    next_nodes = let l = length_rows_of t in rw (on_nodes, ← row_is t c.rows h) (before_next node_count (rows_of t) c.rows (omega arith))

    next_roots : before root_count (rows_of t) (suc c.rows) ≡ c.roots + (row_at t c.rows).roots
    next_roots = let l = length_rows_of t in rw (on_roots, ← row_is t c.rows h) (before_next root_count (rows_of t) c.rows (omega arith))

    pub on_next : (row : Row) → row ≡ row_at t c.rows → On t (record { rows = c.rows + 1; base = c.nodes; nodes = c.nodes + row.nodes; roots = c.roots + row.roots })
    unfolding place_at nodes_before roots_before
    on_next row e = record { within = omega arith; is = rw (add-one, next_nodes, next_roots, ← on_nodes, e) }
