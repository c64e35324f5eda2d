-- Demand 3: what Cycle, TooDeep and any other answer of a merge say of the joined graph.
-- Assumes nothing.
use Rattle.std.specs.Prelude.{ℕ, ◌≤◌, ◌≡◌, ◌≢◌, refl, List}
use Rattle.std.proofs.Common.{arith}
use Rattle.forest.specs.Lent.{Input, Room, refuse}
use Rattle.forest.specs.Merge.{node_sum, graph, roots_of, merge}
use Rattle.forest.specs.Walk.{Walked, going, cycle, deep, walk, State, start}
use Rattle.forest.specs.declared.Reply.TheVariants.{Cycle, TooDeep}
use Rattle.claims.specs.PathLaws.{way_steps, deep_long, path_ends, closed_ends, ends_acyclic}
use Rattle.claims.specs.Paths.{CycleReached, LongPath}
use Rattle.claims.specs.Ranges.{long_below}
use Rattle.claims.specs.Settled.{settled, past_checks, settled_cycle, settled_deep}
use Rattle.claims.specs.Walks.{walk_why, Came, Why, fine, met, full}
use Rattle.record.specs.declared.Node.{Node}
use Rattle.record.proofs.Basics.{clash}
use Rattle.claims.specs.Cycles.{Passes, bounded}

-- what each reason comes to
module _ {g : List Node} {roots : List ℕ} {limit : ℕ} {Q : State → Type 0} where
  pub cycle_cycle : {w : Walked} {p : ℕ} → w ≡ cycle p → Why g roots limit Q w → (c : CycleReached g roots) × (c.on ≡ p)
  cycle_cycle e (met {p = q} w m) = (record { on = q; reached = record { way = _; path = w }; back = way_steps w m }, cc)
  cycle_cycle e (fine q) = absurd (clash (cc))
  cycle_cycle e (full a b c) = absurd (clash (cc))

pub going_acyclic : {g : List Node} {roots : List ℕ} {limit : ℕ} {s : State} {w : Walked} → w ≡ going s → Why g roots limit (Came g start roots) w → ¬ CycleReached g roots
going_acyclic e (fine q) c = ends_acyclic (path_ends (λ r m. closed_ends q.closed r (q.ended r m)) c.reached.path) c.back
going_acyclic e (met a b) c = absurd (clash (cc))
going_acyclic e (full a b d) c = absurd (clash (cc))

module _ (limit : ℕ) (i : Input) (m : Room) (past : Passes limit i m) where
  -- Cycle only if a cycle can be reached from some root; the node that is named lies on it
  pub cycle_only_if : (p : ℕ) → (merge limit i m).reply ≡ Cycle p → (c : CycleReached (graph i) (roots_of i)) × (c.on ≡ p)
  cycle_only_if p e = cycle_cycle (settled_cycle i m p _ (rw (past_checks limit i m past) at e)) (walk_why (graph i) (roots_of i) limit)

  -- TooDeep only if a path from a root holds more distinct nodes than the limit
  pub deep_only_if : (p : ℕ) → (merge limit i m).reply ≡ TooDeep p → LongPath (graph i) (roots_of i) limit
  deep_only_if p e = deep_long (settled_deep i m p _ (rw (past_checks limit i m past) at e)) (walk_why (graph i) (roots_of i) limit)

  -- otherwise no cycle can be reached
  pub otherwise_none : ((p : ℕ) → (merge limit i m).reply ≢ Cycle p) → ((p : ℕ) → (merge limit i m).reply ≢ TooDeep p) → ¬ CycleReached (graph i) (roots_of i)
  unfolding settled refuse
  otherwise_none a b = go (walk (graph i) limit (roots_of i)) refl
    where
      go : (w : Walked) → walk (graph i) limit (roots_of i) ≡ w → ¬ CycleReached (graph i) (roots_of i)
      go (going s) e = going_acyclic e (walk_why (graph i) (roots_of i) limit)
      go (cycle p) e = absurd (a p (rw (past_checks limit i m past, e)))
      go (deep p) e = absurd (b p (rw (past_checks limit i m past, e)))

  -- with a limit of at least the node count TooDeep never comes
  pub never_deep : node_sum i.table ≤ limit → (p : ℕ) → (merge limit i m).reply ≢ TooDeep p
  never_deep h p e = let k = long_below _ _ _ (bounded limit i m past) limit (deep_only_if p e) in omega arith
