-- Laws of listing the ids of one class.
-- Assumes nothing.
use Prim.Native.Nat.{ℕ, zero, suc, ◌/◌, ◌≤◌}
use mathlib.Core.Path.{◌≡◌, refl, sym, ap}
use mathlib.Core.Bool.{Bool, true, false}
use mathlib.Core.List.{List, [], ◌∷◌, Memᴰ}
use native.Mathlib.Omega.{arith}
use lib.Dec.{eqb}
use borrow.Author.Tests.{ne_eqb}
use lib.ListN.{length}
use Rattle.record.specs.Lists.{run}
use Rattle.record.specs.Node.{size, node_at, nodes_of, rank, class, class_of, is_external, is_block}
use Rattle.record.specs.declared.Class.{Class}
use Rattle.record.specs.declared.Node.{Node}
use Rattle.record.specs.declared.Class.TheVariants.{External, Block}
use Rattle.record.proofs.Lengths.{length_run}
use Rattle.record.proofs.Nodes.{length_nodes_of}
use Rattle.forest.specs.Lists.{keep, sort}
use Rattle.forest.specs.Order.{ids, externals, blocks}
use Rattle.claims.specs.Sorts.{run_in}
use Rattle.sorting.specs.Digests.{less}
use Rattle.sorting.proofs.Keeping.{Keeping, keeping_count, keeping_end}
use Rattle.sorting.proofs.Uses.{at_node_lem, externals_is}
use Rattle.dense_order.specs.Kinds.{of_class, Space, Members}

-- all ids are looked at
pub gathered : {s w₀ w : List ℕ} {count p : ℕ} (k : Class) → Space s w₀ → Keeping (λ q. eqb (rank (class (node_at s q))) (rank k)) (run 0 (length s / size)) w₀ w 0 count p → length s / size ≤ p → Members s w₀ w k count
unfolding of_class
gathered {s} k a m h =
    let l = length_run 0 (length s / size) in
    let f = a.fits in
    record {
      count = keeping_count m (omega arith) (omega arith);
      few = omega (arith, m.some, m.within);
      puts = keeping_end m (omega arith) (omega arith);
    }

-- EXTERNALS, THEN BLOCKS --------------------------------------------------------------------------

pub keep_same : {A : Type 0} (t u : A → Bool) (l : List A) → ((x : A) → Memᴰ x l → t x ≡ u x) → keep t l ≡ keep u l
unfolding keep
keep_same t u [] h = refl
keep_same t u (x ∷ l) h = go (u x) refl (keep_same t u l (λ y m. h y (Memᴰ.tail m)))
  where
    go : (b : Bool) → u x ≡ b → keep t l ≡ keep u l → keep t (x ∷ l) ≡ keep u (x ∷ l)
    go true e ih = rw (h x (Memᴰ.head refl), e, keep, ih)
    go false e ih = rw (h x (Memᴰ.head refl), e, keep, ih)

-- kind 0 is external, and no other
pub external_kind : (n : Node) → is_external n ≡ eqb n.kind 0
unfolding is_external class class_of rank
external_kind n = go n.kind
  where
    go : (k : ℕ) → eqb (rank (class_of k)) (rank External) ≡ eqb k 0
    go zero = refl
    go (suc zero) = refl
    go (suc (suc k)) = sym (ne_eqb (suc (suc k)) 0 (λ e. omega arith))

pub externals_class : (s : List ℕ) → externals (nodes_of s) ≡ sort (less s) (of_class s External)
unfolding of_class is_external
externals_class s = externals_is s

pub blocks_class : (s : List ℕ) → blocks (nodes_of s) ≡ of_class s Block
unfolding blocks ids of_class is_block
blocks_class s =
    rw (length_nodes_of s)
    (keep_same _ _ (run 0 (length s / size)) (λ p m. let (a, b) = run_in 0 (length s / size) p m in ap is_block (at_node_lem s p (omega arith))))
