-- Children of a graph's nodes.
-- Assumes nothing.
use Rattle.std.specs.Prelude.{ℕ, ◌<◌, ◌≤◌, ◌≡◌, true, ◌⊎◌, length}
use mathlib.Core.List.Memᴰ
use mathlib.Core.List.{List, Memᴰ}
use Rattle.std.proofs.Common.{inl, inr, arith}
use Rattle.std.proofs.Math.Decide.{dec_lt}
use Rattle.std.proofs.Math.ListN.{get_or-eq_default}
use Rattle.record.specs.Node.{is_internal, children}
use Rattle.record.specs.declared.Node.{Node}
use Rattle.forest.specs.Graph.{no_node, at}
use Rattle.claims.specs.Paths.{HasChild}
use Rattle.claims.specs.Searches.{get_d_in}

-- what has a child is a node of the graph
pub parent_in : (g : List Node) (p c : ℕ) → HasChild g p c → Memᴰ (at g p) g
unfolding at no_node children
parent_in g p c k = go (get_d_in g p no_node)
  where
    go : Memᴰ (at g p) g ⊎ (at g p ≡ no_node) → Memᴰ (at g p) g
    go (inl m) = m
    go (inr e) = absurd (Memᴰ.not-nil (rw e at k))

pub no_child_out : (g : List Node) (p c : ℕ) → length g ≤ p → ¬ HasChild g p c
unfolding at no_node children
no_child_out g p c h k = Memᴰ.not-nil (rw (get_or-eq_default g no_node h) at k)

-- what has a child has a number below the node count
pub parent_below : (g : List Node) (p c : ℕ) → HasChild g p c → p < length g
parent_below g p c k = go (dec_lt p (length g))
  where
    go : Dec (p < length g) → p < length g
    go (yes h) = h
    go (no h) = absurd (no_child_out g p c (omega arith) k)

-- only internals have children
unfoldable pub Bare : List Node → Type 0
Bare g = (p c : ℕ) → HasChild g p c → is_internal (at g p) ≡ true
