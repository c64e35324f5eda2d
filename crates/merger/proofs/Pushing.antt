-- Finishing a position that is not replaced: what the search for an equal earlier node finds decides.
-- Assumes nothing.
use Prim.Native.Nat.{ℕ, ◌+◌, ◌<◌, ◌≤◌}
use mathlib.Core.Path.{◌≡◌, refl, sym, ◌∙◌}
use mathlib.Core.List.{List, [], ◌∷◌, map}
use Rattle.std.specs.Prelude.{Some, None, Option}
use native.Mathlib.Omega.{arith}
use lib.ListN.{length, take, set, length-append}
use Rattle.record.specs.Node.{fields, renumber, same_node}
use Rattle.record.specs.declared.Node.{Node}
use Rattle.forest.specs.Graph.{at}
use Rattle.forest.specs.Lists.{lowest}
use Rattle.forest.specs.Walk.{State, id_of, ended, push, finish}
use Rattle.claims.specs.Searches.{lowest_lt}
use Rattle.merger.specs.Walking.{merged_at, Readable, EachReadable, Holds, Pushing}
use Rattle.merger.proofs.Fine.{fine_fewer}
use Rattle.merger.proofs.Finishing.{holds_ended, holds_new}
use Rattle.merger.proofs.Reading.{readable, sources_readable, merged_is, merged_list}

module _ {s b v u : List ℕ} {m p : ℕ} {g : List Node} {path : List ℕ} {t : State} (q : Pushing s b v u m p g path t) where
  pub own_readable : Readable s b v p
  own_readable = readable q.mapped q.fine q.holds p q.below q.ended

  pub each_readable : EachReadable s b v (take m u)
  each_readable = rw q.counted (sources_readable q.mapped q.fine q.holds)

  -- there is room for one more
  pub room_left : m < length b
  room_left = rw q.counted (fine_fewer q.fine q.below)

  module _ (x : Node) (is : x ≡ merged_at s b v p) where
    pub own_count : x.count ≤ fields
    unfolding merged_at renumber
    own_count = rw is (q.mapped.fit p q.below)

    -- the search among the merged nodes
    module _ (r : Option ℕ) (f : r ≡ (lowest (same_node x) (map (merged_at s b v) (take m u)))) where
      found_is : lowest (same_node x) (map (merged_at s b v) (take m u)) ≡ lowest (same_node (renumber (id_of t) (at g p))) t.merged
      found_is = rw (is, merged_is q.mapped q.fine q.holds p q.below q.ended, q.counted, merged_list q.mapped q.fine q.holds) refl

      -- an equal earlier node has the id k
      module _ (k : ℕ) (e : r ≡ Some k) where
        found : lowest (same_node (renumber (id_of t) (at g p))) t.merged ≡ Some k
        found = sym found_is ∙ (sym f ∙ e)

        pub found_low : k < m
        found_low = rw q.counted (lowest_lt _ t.merged k found)

        pub pushed_equal : (m ≡ length (finish g p t).merged) × Holds g (set v p (k + 2)) u (length b) path (finish g p t)
        unfolding finish push ended
        pushed_equal = rw (q.kept, finish, found, push) (q.counted, holds_ended q.fine q.holds q.below k (k + 2) refl)

      -- there is none
      pub pushed_new : r ≡ None → (m + 1 ≡ length (finish g p t).merged) × Holds g (set v p (m + 2)) (set u m p) (length b) path (finish g p t)
      unfolding finish push ended
      pushed_new e =
          let z : lowest (same_node (renumber (id_of t) (at g p))) t.merged ≡ None = sym found_is ∙ (sym f ∙ e) in
          let l = length-append t.merged (renumber (id_of t) (at g p) ∷ []) in
          rw (q.kept, finish, z, push, q.counted) (omega arith, holds_new q.fine q.holds q.below (renumber (id_of t) (at g p)) refl q.ended)
