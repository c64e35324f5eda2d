-- A place behind the forest of a position or of a root: how a loop comes to the next one, and what the forest has there.
-- Assumes nothing.
use Prim.Native.Nat.{ℕ, zero, suc, ◌+◌, ◌-◌, ◌/◌, ◌<◌, ◌≤◌}
use mathlib.Core.Path.{◌≡◌, sym, ◌∙◌}
use mathlib.Core.List.{List, [], map}
use native.Mathlib.Omega.{arith}
use lib.ListN.{length, get_or}
use Rattle.record.specs.Node.{row_size, rows_of}
use Rattle.record.specs.declared.Node.{Node}
use Rattle.record.specs.declared.Row.{Row}
use Rattle.forest.specs.Graph.{forests, joined_roots}
use Rattle.forest.specs.Lists.{sum}
use Rattle.forest.specs.Merge.{node_sum, root_sum}
use Rattle.merger.specs.Table.{roots_before, On, ToNode, ToRoot, AtNode, AtRoot, starts}
use Rattle.merger.specs.declared.table.Cursor.{Cursor}
use Rattle.merger.proofs.Sums.{before, no_row, before_none, before_next, before_most, length_rows_of}
use Rattle.merger.proofs.Cuts.{node_count, root_count, cut, cut_long, cut_at, roots_cut}
use Rattle.merger.proofs.Rows.{on_start, on_nodes, on_roots, on_base}

-- TOWARD A ROOT AND A POSITION --------------------------------------------------------------------

pub toward_start : (t : List ℕ) → ToRoot t (record { rows = 0; base = 0; nodes = 0; roots = 0 }) 0
unfolding roots_before sum
toward_start t = record { on = on_start t; low = omega arith }

pub toward_next : (t : List ℕ) (c : Cursor) (k : ℕ) → AtRoot t c k → ToRoot t c (k + 1)
toward_next t c k a = record { on = a.toward.on; low = let h = a.toward.low in omega arith }

pub node_start : (t : List ℕ) → ToNode t (record { rows = 0; base = 0; nodes = 0; roots = 0 }) 0
node_start t = record { on = on_start t; low = omega arith }

pub node_next : (t : List ℕ) (c : Cursor) (p : ℕ) → AtNode t c p → ToNode t c (p + 1)
node_next t c p a = record { on = a.toward.on; low = let h = a.toward.low in omega arith }

-- d is one row further on than c, which ends no later than p
module _ (t : List ℕ) (c d : Cursor) (on : On t c) (one : d.rows ≡ c.rows + 1) (on' : On t d) (p : ℕ) where
  same_row : (col : Row → ℕ) → before col (rows_of t) (d.rows - 1) ≡ before col (rows_of t) c.rows
  same_row col = let e : d.rows - 1 ≡ c.rows = omega arith in rw e

  pub node_step : c.nodes ≤ p → ToNode t d p
  node_step h = record { on = on'; low = omega (arith, on_base t d on', same_row node_count, on_nodes t c on) }

  pub root_step : c.roots ≤ p → ToRoot t d p
  unfolding roots_before
  root_step h = record { on = on'; low = omega (arith, same_row root_count, on_roots t c on) }

-- a forest begins no later than it ends
pub base_low : (t : List ℕ) (c : Cursor) → On t c → c.base ≤ c.nodes
base_low t c on = go c.rows on.within (on_base t c on) (on_nodes t c on)
  where
    go : (i : ℕ) → i ≤ length t / row_size → c.base ≡ before node_count (rows_of t) (i - 1) → c.nodes ≡ before node_count (rows_of t) i → c.base ≤ c.nodes
    go zero h a b = omega arith
    go (suc i) h a b = let z : suc i - 1 ≡ i = omega arith in let q = rw z at a in omega (arith, before_next node_count (rows_of t) i (omega (arith, length_rows_of t)))

-- WHAT THE FOREST HAS -----------------------------------------------------------------------------

module _ {A B : Type 0} (col : Row → ℕ) (h : ℕ → ℕ → A → B) (t : List ℕ) (c : Cursor) (on : On t c) (l : List A) (whole : length l ≡ sum (map col (rows_of t))) where
  -- what is cut out is mapped with the place's own numbers
  pub cut_here : (x : A) (y : B) (p : ℕ) → before col (rows_of t) (c.rows - 1) ≤ p → p < before col (rows_of t) c.rows → get_or (cut col h 0 (rows_of t) l) p y ≡ h c.base (c.nodes - c.base) (get_or l p x)
  cut_here x y p low high = go c.rows on.within (on_base t c on) (on_nodes t c on) low high
    where
      go : (i : ℕ) → i ≤ length t / row_size → c.base ≡ before node_count (rows_of t) (i - 1) → c.nodes ≡ before node_count (rows_of t) i → before col (rows_of t) (i - 1) ≤ p → p < before col (rows_of t) i
          → get_or (cut col h 0 (rows_of t) l) p y ≡ h c.base (c.nodes - c.base) (get_or l p x)
      go zero w a b u v = absurd (omega (arith, before_none col (rows_of t)))
      go (suc i) w a b u v =
          let s : i < length (rows_of t) = omega (arith, length_rows_of t) in
          let z : suc i - 1 ≡ i = omega arith in
          let d = rw z at a in
          let e : 0 + before node_count (rows_of t) i ≡ c.base = omega arith in
          let f : (get_or (rows_of t) i no_row).nodes ≡ c.nodes - c.base = omega (arith, before_next node_count (rows_of t) i s) in
          cut_at col h x y 0 (rows_of t) l i p s (rw z at u) v (omega (arith, before_most col (rows_of t) (suc i))) ∙ rw (e, f)

-- by the place of a position, and by the place of a root
module _ {A B : Type 0} (h : ℕ → ℕ → A → B) (t : List ℕ) (c : Cursor) (l : List A) (x : A) (y : B) (p : ℕ) where
  pub node_here : AtNode t c p → length l ≡ node_sum t → get_or (cut node_count h 0 (rows_of t) l) p y ≡ h c.base (c.nodes - c.base) (get_or l p x)
  unfolding node_sum
  node_here a e =
      let on = a.toward.on in
      cut_here node_count h t c on l e x y p (let q = a.toward.low in omega (arith, on_base t c on)) (let q = a.high in omega (arith, on_nodes t c on))

  pub root_here : AtRoot t c p → length l ≡ root_sum t → get_or (cut root_count h 0 (rows_of t) l) p y ≡ h c.base (c.nodes - c.base) (get_or l p x)
  unfolding root_sum roots_before
  root_here a e =
      let on = a.toward.on in
      cut_here root_count h t c on l e x y p a.toward.low (let q = a.high in omega (arith, on_roots t c on))

-- THE ROOTS AS POSITIONS --------------------------------------------------------------------------

starts_cut : (t : List ℕ) (ns : List Node) (rs : List ℕ) → joined_roots (forests 0 (rows_of t) ns rs) ≡ cut root_count (λ b n r. b + r) 0 (rows_of t) rs
unfolding joined_roots
starts_cut t ns rs = roots_cut (λ b n r. b + r) 0 (rows_of t) ns rs

pub starts_is : (t : List ℕ) (ns : List Node) (rs : List ℕ) → joined_roots (forests 0 (rows_of t) ns rs) ≡ starts t rs
unfolding starts
starts_is t ns rs = starts_cut t ns rs ∙ sym (starts_cut t [] rs)

pub starts_long : (t rs : List ℕ) → length rs ≡ root_sum t → length (starts t rs) ≡ length rs
unfolding starts root_sum
starts_long t rs e = rw (starts_cut t [] rs) (cut_long root_count (λ b n r. b + r) 0 (rows_of t) rs e)

pub root_position : (t : List ℕ) (rs : List ℕ) (c : Cursor) (k : ℕ) → AtRoot t c k → length rs ≡ root_sum t → get_or (starts t rs) k 0 ≡ c.base + get_or rs k 0
unfolding starts
root_position t rs c k a e = rw (starts_cut t [] rs) (root_here (λ b n r. b + r) t c rs 0 0 k a e)
