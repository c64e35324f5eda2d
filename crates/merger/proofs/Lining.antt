-- Laws of putting the sources into their canonical order: each class listed behind the one before, the externals sorted.
-- Assumes nothing.
use Prim.Native.Nat.{ℕ, ◌+◌, ◌≤◌}
use mathlib.Core.Path.{◌≡◌, ◌∙◌, ap}
use mathlib.Core.List.{List, [], ◌∷◌, ◌++◌, append-nil}
use mathlib.Core.Logic.{◌⊎◌, inl, inr}
use mathlib.Core.Bool.{true}
use native.Mathlib.Omega.{arith}
use lib.ListN.{length, take, drop, length-take, length-drop, drop_of_length-le}
use lib.Seq.{take-append_seam, drop-append_seam}
use Rattle.record.specs.Node.{node_at, rank, is_external, is_block, is_internal}
use Rattle.record.specs.declared.Class.TheVariants.{External, Block, Internal}
use Rattle.record.proofs.Nodes.{classes, rank_external, rank_block, rank_internal}
use Rattle.forest.specs.Lists.{keep, sort}
use Rattle.sorting.specs.Digests.{less}
use Rattle.sorting.specs.Promises.{Listed, Spared}
use Rattle.sorting.proofs.SortLaws.{all_keep}
use Rattle.merger.specs.Rooms.{Sourced, classed, sorted}

-- every source has one class
pub classes_long : (s l : List ℕ) → length (classed s External l) + (length (classed s Block l) + length (classed s Internal l)) ≡ length l
unfolding classed keep rank
classes_long s [] = omega arith
classes_long s (q ∷ l) = go (classes (node_at s q)) (classes_long s l)
  where
    go : (is_external (node_at s q) ≡ true) ⊎ ((is_block (node_at s q) ≡ true) ⊎ (is_internal (node_at s q) ≡ true)) → length (classed s External l) + (length (classed s Block l) + length (classed s Internal l)) ≡ length l
        → length (classed s External (q ∷ l)) + (length (classed s Block (q ∷ l)) + length (classed s Internal (q ∷ l))) ≡ length (q ∷ l)
    go (inl e) ih = rw (rank_external _ e, keep) (omega arith)
    go (inr (inl e)) ih = rw (rank_block _ e, keep) (omega arith)
    go (inr (inr e)) ih = rw (rank_internal _ e, keep) (omega arith)

-- x is listed at the start of a list, which is cut there
cut_front : (x d : List ℕ) {o a : List ℕ} {n : ℕ} → n ≡ length x → o ≡ x ++ d → a ≡ take n o → a ≡ x
cut_front x d e p f = f ∙ rw (p, e) (take-append_seam x d)

cut_back : (x d : List ℕ) {o a : List ℕ} {n : ℕ} → n ≡ length x → o ≡ x ++ d → a ≡ drop n o → a ≡ d
cut_back x d e p f = f ∙ rw (p, e) (drop-append_seam x d)

module _ {s l o e : List ℕ} (q : Sourced s l o e) {x : ℕ} {o₁ a b : List ℕ} (c : x ≡ length (classed s External l)) (p : o₁ ≡ classed s External l ++ drop x o) (f : a ≡ take x o₁) (g : b ≡ drop x o₁) where
  others_long : length b ≡ length (classed s Block l) + length (classed s Internal l)
  others_long = let k = q.as_long in let z = classes_long s l in ap length (cut_back (classed s External l) (drop x o) c p g) ∙ simp length-drop (omega arith)

  pub sort_room : Spared s a (take x e)
  unfolding Listed classed
  sort_room =
      let k = q.spare in
      let z = classes_long s l in
      rw (cut_front (classed s External l) (drop x o) c p f) (record { listed = all_keep _ q.listed; as_long = simp length-take (omega arith) })

  pub blocks_room : length (classed s Block l) ≤ length b
  blocks_room = let k = others_long in omega arith

  module _ {y : ℕ} {b₁ v d : List ℕ} (k : y ≡ length (classed s Block l)) (i : b₁ ≡ classed s Block l ++ drop y b) (j : v ≡ take y b₁) (h : d ≡ drop y b₁) where
    internals_long : length d ≡ length (classed s Internal l)
    internals_long = let z = others_long in ap length (cut_back (classed s Block l) (drop y b) k i h) ∙ simp length-drop (omega arith)

    pub internals_room : length (classed s Internal l) ≤ length d
    internals_room = let z = internals_long in omega arith

    pub arranged : {z : ℕ} {u w : List ℕ} → u ≡ sort (less s) a → z ≡ length (classed s Internal l) → w ≡ classed s Internal l ++ drop z d → u ++ (v ++ w) ≡ sorted s l
    unfolding sorted
    arranged {z} m n t =
        let all : length d ≤ z = omega (arith, internals_long) in
        rw (m, cut_front (classed s External l) (drop x o) c p f, cut_front (classed s Block l) (drop y b) k i j, t, drop_of_length-le d all, append-nil (classed s Internal l))
