-- The sorted externals are Canonicalize's, and what is found is Merge's replacement.
-- Assumes nothing.
use Prim.Native.Nat.{ℕ, zero, suc, ◌+◌, ◌/◌, ◌<◌, ◌≤◌}
use mathlib.Core.Path.{◌≡◌, refl, sym, ◌∙◌, ap}
use mathlib.Core.List.{List, [], ◌∷◌, map}
use mathlib.Core.Bool.{Bool, not, ◌&&◌}
use native.Mathlib.Omega.{arith}
use lib.ListN.{length, get_or}
use Rattle.record.specs.Lists.{same, run}
use Rattle.record.specs.Node.{size, node_at, nodes_of, is_external}
use Rattle.record.proofs.Lengths.{length_run}
use Rattle.record.proofs.Nodes.{length_nodes_of}
use Rattle.forest.specs.Lists.{keep, last_of, sort}
use Rattle.forest.specs.Graph.{no_node, at, replacement}
use Rattle.forest.specs.Order.{ids, lower, externals}
use Rattle.sorting.specs.Digests.{digest, less, holds}
use Rattle.sorting.specs.Sorted.{All, all_nil, all_cons}
use Rattle.sorting.specs.Promises.{Listed}
use Rattle.sorting.proofs.SortLaws.{all_keep}
use Rattle.sorting.proofs.LastLaws.{last_keep, highest_last}
use Rattle.sorting.proofs.Agree.{sort_agree, last_agree, keep_agree}

pub get_d_map : {A B : Type 0} (f : A → B) (l : List A) (i : ℕ) (d : A) (e : B) → i < length l → get_or (map f l) i e ≡ f (get_or l i d)
get_d_map f [] i d e h = absurd (omega arith)
get_d_map f (x ∷ l) zero d e h = refl
get_d_map f (x ∷ l) (suc i) d e h = get_d_map f l i d e (omega arith)

pub run_at : (a n i : ℕ) → i < n → get_or (run a n) i 0 ≡ a + i
unfolding run
run_at a zero i h = absurd (omega arith)
run_at a (suc n) zero h = omega arith
run_at a (suc n) (suc i) h = omega (arith, run_at (suc a) n i (omega arith))

run_below : (a k n : ℕ) → a + k ≤ n → All (λ p. p < n) (run a k)
unfolding run
run_below a zero n h = all_nil
run_below a (suc k) n h = all_cons {x = a} (omega arith) (run_below (suc a) k n (omega arith))

module _ (s : List ℕ) where
  -- the numbers of all node records, and of those that pass a test
  pub all_listed : Listed s (run 0 (length s / size))
  unfolding Listed
  all_listed = run_below 0 (length s / size) (length s / size) (omega arith)

  pub kept_listed : (t : ℕ → Bool) → Listed s (keep t (run 0 (length s / size)))
  unfolding Listed
  kept_listed t = all_keep t all_listed

  -- the node at position p of the nodes that were read is node record number p
  pub at_node_lem : (p : ℕ) → p < length s / size → at (nodes_of s) p ≡ node_at s p
  unfolding at nodes_of
  at_node_lem p h =
      let n = length_run 0 (length s / size) in
      let e : get_or (run 0 (length s / size)) p 0 ≡ p = omega (arith, run_at 0 (length s / size) p h) in
      get_d_map (node_at s) (run 0 (length s / size)) p 0 no_node (omega arith) ∙ ap (node_at s) e

  -- Canonicalize: the externals by digest
  pub externals_is : externals (nodes_of s) ≡ sort (less s) (keep (λ p. is_external (node_at s p)) (run 0 (length s / size)))
  unfolding externals ids lower less Listed
  externals_is =
      rw (length_nodes_of s, keep_agree (λ p. is_external (at (nodes_of s) p)) (λ p. is_external (node_at s p)) (λ x h. ap is_external (at_node_lem x h)) all_listed)
      (sort_agree (lower (nodes_of s)) (less s) (λ x y h k. rw (at_node_lem x h, at_node_lem y k)) (kept_listed (λ p. is_external (node_at s p))))

  -- Merge, step 1: the replacement
  pub replacement_is : (d : List ℕ) → replacement (nodes_of s) d ≡ last_of (holds s d) (keep (λ p. not (is_external (node_at s p))) (run 0 (length s / size)))
  unfolding replacement holds at Listed
  replacement_is d =
      highest_last no_node (λ n. not (is_external n) && same d n.digest) (nodes_of s)
      ∙ rw (length_nodes_of s)
      (last_agree (λ p. not (is_external (at (nodes_of s) p)) && same d (at (nodes_of s) p).digest) (λ p. not (is_external (node_at s p)) && same d (digest s p)) (λ x h. rw (at_node_lem x h)) all_listed
      ∙ sym (last_keep (λ p. same d (digest s p)) (λ p. not (is_external (node_at s p))) (run 0 (length s / size))))
