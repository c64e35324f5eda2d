-- What an accepted merge wrote.
-- Assumes nothing.
use Rattle.std.specs.Prelude.{ℕ, ◌*◌, ◌<◌, ◌≤◌, ◌≡◌, true, ◌⊎◌, take, None}
use Rattle.std.proofs.Math.Path.{refl, ap}
use Rattle.std.proofs.Common.{◌∙◌}
use mathlib.Core.List.{Memᴰ}
use Rattle.std.proofs.Math.ListN.{length}
use Rattle.record.specs.Lists.{flat}
use Rattle.record.specs.Node.{size, node_bytes, same_node}
use Rattle.record.proofs.Basics.{clash}
use Rattle.record.proofs.RoundTrip.{Octets}
use Rattle.forest.specs.Graph.{at}
use Rattle.forest.specs.Lent.{Input, Room, Result, no_id, accept, first, answered}
use Rattle.forest.specs.Merge.{node_sum, graph, roots_of, merge_checks, stopped, state_of, merge_refusals, merged, merge}
use Rattle.forest.specs.Validate.{node_faults, validate}
use Rattle.forest.specs.Walk.{Walked, going, cycle, deep, walk}
use Rattle.forest.specs.declared.Reply.TheVariants.{Accepted}
use Rattle.claims.specs.Checks.{first_none, first_both}
use Rattle.claims.specs.Cycles.{Passes}
use Rattle.claims.specs.Merges.{roots_few, merged_few, merged_passes, children_below, children_in_range, merged_valid, ids_in_range, roots_in_range, no_two_equal}
use Rattle.claims.specs.Origins.{merged_records}
use Rattle.claims.specs.Paths.{HasChild}
use Rattle.claims.specs.Refusals.{merge_refuses, IsAccepted, accepted_past}
use Rattle.claims.specs.Rooms.{take_over}

-- a result with nothing wrong in it
pub record Sane (i : Input) (r : Result) : Type 0 where
  pub few : length r.nodes ≤ node_sum i.table
  pub few_roots : length r.roots ≤ length i.roots
  pub below : (p c : ℕ) → HasChild r.nodes p c → c < p
  pub differ : (p q : ℕ) → p < length r.nodes → q < length r.nodes → same_node (at r.nodes p) (at r.nodes q) ≡ true → p ≡ q
  pub children_in : (p c : ℕ) → HasChild r.nodes p c → c < length r.nodes
  pub roots_in : (x : ℕ) → Memᴰ x r.roots → x < length r.nodes
  pub ids_in : (x : ℕ) → Memᴰ x r.ids → (x ≡ no_id) ⊎ (x < length r.nodes)
  pub passes : first (node_faults r.nodes) ≡ None

module _ (limit : ℕ) (i : Input) (m : Room) (a : IsAccepted (merge limit i m)) where
  nothing_refused : first (merge_refusals limit i m (walk (graph i) limit (roots_of i)) (merged (graph i) (roots_of i) (state_of (walk (graph i) limit (roots_of i))))) ≡ None
  unfolding merge
  nothing_refused = accepted_past m _ (merged (graph i) (roots_of i) (state_of (walk (graph i) limit (roots_of i)))) (merge_refuses limit i m (walk (graph i) limit (roots_of i)) _) a

  accepted_result : merge limit i m ≡ accept m (merged (graph i) (roots_of i) (state_of (walk (graph i) limit (roots_of i))))
  unfolding merge answered
  accepted_result = rw (nothing_refused, answered)

  pub accepted_passes : Passes limit i m
  unfolding merge_refusals
  accepted_passes = (first_both (merge_checks limit i m) _ nothing_refused).0

  not_stopped_at : stopped (walk (graph i) limit (roots_of i)) ≡ None
  unfolding merge_refusals
  not_stopped_at = (first_none _ _ (first_both (merge_checks limit i m) _ nothing_refused).1).0

  -- what an accepted merge wrote is such a result
  pub merge_sane : (r : Result) × (merge limit i m ≡ accept m r) × Sane i r
  unfolding stopped state_of
  merge_sane = go (walk (graph i) limit (roots_of i)) refl not_stopped_at accepted_result
    where
      go : (w : Walked) → walk (graph i) limit (roots_of i) ≡ w → stopped w ≡ None → merge limit i m ≡ accept m (merged (graph i) (roots_of i) (state_of w)) → (r : Result) × (merge limit i m ≡ accept m r) × Sane i r
      go (going s) q h e = (
        merged (graph i) (roots_of i) s,
        e,
        record {
          few = merged_few limit i m accepted_passes s q;
          few_roots = roots_few i s;
          below = children_below limit i m accepted_passes s q;
          differ = no_two_equal limit i m accepted_passes s q;
          children_in = children_in_range limit i m accepted_passes s q;
          roots_in = roots_in_range limit i m accepted_passes s q;
          ids_in = ids_in_range limit i m accepted_passes s q;
          passes = merged_passes limit i m accepted_passes s q;
        },
      )
      go (cycle p) q h e = absurd (clash (cc))
      go (deep p) q h e = absurd (clash (cc))

  -- and its records pass Validate
  pub merge_valid : Octets i.nodes → (n k : ℕ) → (merge limit i m).reply ≡ Accepted n k → validate (take (size * n) (merge limit i m).room.nodes) ≡ Accepted n 0
  unfolding stopped state_of accept
  merge_valid octets n k h = go (walk (graph i) limit (roots_of i)) refl not_stopped_at accepted_result
    where
      go : (w : Walked) → walk (graph i) limit (roots_of i) ≡ w → stopped w ≡ None → merge limit i m ≡ accept m (merged (graph i) (roots_of i) (state_of w))
          → validate (take (size * n) (merge limit i m).room.nodes) ≡ Accepted n 0
      go (going s) q f e =
          let z : Accepted (length (merged (graph i) (roots_of i) s).nodes) (length (merged (graph i) (roots_of i) s).roots) ≡ Accepted n k = rw e at h in
          let l : length (merged (graph i) (roots_of i) s).nodes ≡ n = cc in
          let b : length (flat node_bytes (merged (graph i) (roots_of i) s).nodes) ≡ size * n = merged_records i limit s q ∙ ap (λ x. size * x) l in
          rw (e, take_over m.nodes _ _ b) (merged_valid limit i m accepted_passes s q octets ∙ cc)
      go (cycle p) q f e = absurd (clash (cc))
      go (deep p) q f e = absurd (clash (cc))
