-- Laws of the checks of records and children: a forest that passes them can be walked.
-- Assumes nothing.
use Prim.Native.Nat.{ℕ, ◌/◌, ◌<◌, ◌≤◌}
use mathlib.Core.Path.{◌≡◌}
use mathlib.Core.List.{List, [], Memᴰ}
use mathlib.Core.Logic.{◌⊎◌, inl, inr}
use Rattle.std.specs.Prelude.{None}
use native.Mathlib.Omega.{arith}
use lib.ListN.{length, get_or, length-take}
use Rattle.record.specs.Node.{fields, size, node_at, nodes_of, bad, children}
use Rattle.record.specs.declared.Node.{Node}
use Rattle.record.proofs.Nodes.{good, length_nodes_of}
use Rattle.forest.specs.Canonicalize.{alone}
use Rattle.forest.specs.Graph.{far_child, no_node, at}
use Rattle.forest.specs.Lent.{most}
use Rattle.forest.specs.Validate.{bad_record}
use Rattle.claims.specs.Accepting.{far_inside, records_bare}
use Rattle.claims.specs.Checks.{naming_none}
use Rattle.claims.specs.Origins.{records_full}
use Rattle.claims.specs.Searches.{lowest_none, get_d_in, get_d_mem}
use Rattle.sorting.proofs.Uses.{at_node_lem}
use Rattle.dense_order.specs.State.{Fair}

-- a node has at most as many children as it has fields for them
narrow_at : (s : List ℕ) (p : ℕ) → length (children (at (nodes_of s) p)) ≤ fields
unfolding at children no_node
narrow_at s p = go (get_d_in (nodes_of s) p no_node)
  where
    go : Memᴰ (at (nodes_of s) p) (nodes_of s) ⊎ (at (nodes_of s) p ≡ no_node) → length (children (at (nodes_of s) p)) ≤ fields
    go (inl m) =
        let n : Node = at (nodes_of s) p in
        let y = (records_full s n m).kids_long in
        omega (arith, length-take n.count n.kids)
    go (inr e) = rw e (omega arith)

-- a record that is not bad has no higher count
pub count_fits : (s : List ℕ) → bad_record s ≡ None → (p : ℕ) → p < length s / size → (node_at s p).count ≤ fields
unfolding bad_record at
count_fits s e p h =
    let m : Memᴰ (get_or (nodes_of s) p no_node) (nodes_of s) = get_d_mem (nodes_of s) p no_node (omega (arith, length_nodes_of s)) in
    (good (node_at s p) (lowest_none bad (nodes_of s) (naming_none _ _ e) (node_at s p) (rw (← at_node_lem s p h) m))).count_few

pub fair : {s : List ℕ} {n : ℕ} → n ≡ length s / size → n ≤ most → bad_record s ≡ None → far_child (alone (nodes_of s) []) ≡ None → Fair s n
fair {s} {n} c l b f = record {
  counted = c;
  few = l;
  bare = records_bare s b;
  inside = λ p q k. let z = far_inside (nodes_of s) f p q k in omega (arith, length_nodes_of s);
  narrow = narrow_at s;
  fit = λ p h. count_fits s b p (omega arith);
}
