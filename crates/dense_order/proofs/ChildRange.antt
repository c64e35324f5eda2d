-- Laws of a loop that seeks the first node with a child past the whole records.
-- Assumes nothing.
use Rattle.std.specs.Prelude.{Some, None}
use Prim.Native.Nat.{ℕ, ◌+◌, ◌/◌, ◌<◌, ◌≤◌}
use mathlib.Core.Path.{◌≡◌}
use mathlib.Core.List.{List, [], map, append-nil}
use native.Mathlib.Numerals.{add-one}
use lib.Dec.{leb}
use lib.ListN.{length}
use Rattle.record.specs.Lists.{flat}
use Rattle.record.specs.Node.{size, node_at, nodes_of, children}
use Rattle.record.specs.declared.Node.{Node}
use Rattle.record.proofs.Nodes.{length_nodes_of}
use Rattle.forest.specs.Lists.{last_of, first_some}
use Rattle.forest.specs.Graph.{far_kid, far_child}
use Rattle.forest.specs.Canonicalize.{alone}
use Rattle.dense_order.proofs.Rest.{nodes_from, rest_all, rest_step, rest_end}

-- no node before number i has a child past the whole records
abbrev pub Near : List ℕ → ℕ → Type 0
Near s i = far_child (alone (nodes_of s) []) ≡ first_some i (map (far_kid (length s / size)) (nodes_from s i))

module _ (s : List ℕ) where
  pub near_start : Near s 0
  unfolding far_child alone flat
  near_start = rw (append-nil, length_nodes_of s, rest_all s)

  module _ (i : ℕ) (k : Near s i) where
    -- m is node record number i
    module _ (h : i < length s / size) (m : Node) (is : m ≡ node_at s i) where
      pub near_found : (c : ℕ) → (last_of (leb (length s / size)) (children m)) ≡ Some c → Some (i, c) ≡ (far_child (alone (nodes_of s) []))
      unfolding first_some far_kid
      near_found c e = rw (k, rest_step s i h, ← is, e)

      pub near_step : (last_of (leb (length s / size)) (children m)) ≡ None → Near s (i + 1)
      unfolding first_some far_kid
      near_step e = rw (k, rest_step s i h, ← is, e, add-one)

    pub near_end : length s / size ≤ i → None ≡ (far_child (alone (nodes_of s) []))
    unfolding first_some
    near_end h = rw (k, rest_end s i h)
