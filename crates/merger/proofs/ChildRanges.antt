-- Laws of a loop that seeks the first node with a child past its forest's end.
-- Assumes nothing.
use Prim.Native.Nat.{ℕ, ◌+◌, ◌-◌, ◌*◌, ◌/◌, ◌<◌, ◌≤◌}
use mathlib.Core.Path.{◌≡◌, refl, sym, ◌∙◌, ap}
use mathlib.Core.List.{List}
use Rattle.std.specs.Prelude.{Option, None, Some}
use native.Mathlib.Omega.{arith}
use native.Mathlib.Numerals.{add-one}
use lib.Dec.{leb}
use lib.ListN.{length, drop, get_or, drop_of_length-le}
use lib.Seq.{drop-cons}
use Rattle.record.specs.Node.{size, node_at, nodes_of, rows_of, children}
use Rattle.record.specs.declared.Node.{Node}
use Rattle.record.proofs.Nodes.{length_nodes_of}
use Rattle.forest.specs.Lists.{last_of, first_some}
use Rattle.forest.specs.Graph.{forests, far_kid, far_child, no_node, at}
use Rattle.forest.specs.Merge.{node_sum}
use Rattle.sorting.proofs.Uses.{at_node_lem}
use Rattle.merger.specs.Table.{AtNode}
use Rattle.merger.specs.declared.table.Cursor.{Cursor}
use Rattle.merger.proofs.Cuts.{node_count, cut, cut_long, nodes_cut}
use Rattle.merger.proofs.Cursors.{node_here}

-- of each node the last child past its forest's end
unfoldable pub far_kids : List ℕ → List ℕ → List (Option ℕ)
far_kids t s = cut node_count (λ b n. far_kid n) 0 (rows_of t) (nodes_of s)

far_child_is : (t s rs : List ℕ) → far_child (forests 0 (rows_of t) (nodes_of s) rs) ≡ first_some 0 (far_kids t s)
unfolding far_child far_kids
far_child_is t s rs = rw (nodes_cut (λ b n. far_kid n) 0 (rows_of t) (nodes_of s) rs)

-- no node before position p has one
abbrev pub Near : List ℕ → List ℕ → ℕ → Type 0
Near t s p = first_some 0 (far_kids t s) ≡ first_some p (drop p (far_kids t s))

module _ (t s : List ℕ) where
  pub near_start : Near t s 0
  near_start = refl

  module _ (whole : length s ≡ size * node_sum t) (p : ℕ) (k : Near t s p) where
    counted : length (nodes_of s) ≡ node_sum t
    counted = omega (arith, length_nodes_of s)

    long : length (far_kids t s) ≡ length s / size
    unfolding far_kids node_sum
    long = cut_long node_count (λ b n. far_kid n) 0 (rows_of t) (nodes_of s) counted ∙ length_nodes_of s

    -- c is the place behind the forest of position p, and m the node there
    module _ (c : Cursor) (a : AtNode t c p) (h : p < length s / size) (m : Node) (is : m ≡ node_at s p) where
      kid : get_or (far_kids t s) p None ≡ far_kid (c.nodes - c.base) m
      unfolding far_kids at
      kid = node_here (λ b n. far_kid n) t c (nodes_of s) no_node None p a counted ∙ ap (far_kid (c.nodes - c.base)) (at_node_lem s p h ∙ sym is)

      pub near_found : (child : ℕ) → (last_of (leb (c.nodes - c.base)) (children m)) ≡ Some child → (rs : List ℕ) → Some (p, child) ≡ (far_child (forests 0 (rows_of t) (nodes_of s) rs))
      unfolding first_some far_kid
      near_found child e rs = rw (far_child_is t s rs, k, drop-cons (far_kids t s) p None (omega (arith, long)), kid, e)

      pub near_step : (last_of (leb (c.nodes - c.base)) (children m)) ≡ None → Near t s (p + 1)
      unfolding first_some far_kid
      near_step e = rw (k, drop-cons (far_kids t s) p None (omega (arith, long)), kid, e, add-one)

    pub near_end : length s / size ≤ p → (rs : List ℕ) → None ≡ (far_child (forests 0 (rows_of t) (nodes_of s) rs))
    unfolding first_some
    near_end h rs = let l = long in let z : length (far_kids t s) ≤ p = omega arith in rw (far_child_is t s rs, k, drop_of_length-le (far_kids t s) z)
