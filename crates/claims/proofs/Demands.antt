-- The three demands in their order, then what Canonicalize and Merge promise. Each statement cites its theorem.
-- The words: `outcome`, `lent` and `refusals` of a call are in Calls, steps, paths and cycles in Paths, all else in the crate `forest`.
-- Assumes nothing.
use Rattle.std.specs.Prelude.{ℕ, ◌*◌, ◌≤◌, ◌≡◌, true, false, ◌≢◌, ◌↔◌, length, take, replicate, Some, None}
use Rattle.record.specs.Lists.{run}
use Rattle.record.specs.Node.{size, nodes_of}
use Rattle.record.proofs.RoundTrip.{Octets}
use Rattle.forest.specs.Canonicalize.{canonicalize_checks, canonicalize}
use Rattle.forest.specs.Lent.{Input, Room, Outcome, Result, leaves_work, accept, first}
use Rattle.forest.specs.Merge.{node_sum, graph, roots_of, merge}
use Rattle.forest.specs.Validate.{validate}
use Rattle.forest.specs.declared.Reply.{Reply}
use Rattle.forest.specs.declared.Reply.TheVariants.{Accepted, Cycle, TooDeep, NoRoom}
use Rattle.forest.proofs.Examples.{table, Holds, Every, examples}
use Rattle.claims.specs.Accepting.{canonicalize_cleared, accepted_exactly_if}
use Rattle.claims.specs.Calls.{Call, lent, outcome, refusals}
use Rattle.claims.specs.Cycles.{Passes}
use Rattle.claims.proofs.Cycles.{cycle_only_if, deep_only_if, otherwise_none, never_deep}
use Rattle.claims.specs.Delivers.{Sane, merge_sane, merge_valid}
use Rattle.claims.specs.Limits.{larger_limit}
use Rattle.claims.specs.Outcomes.{Satisfies, one_outcome, first_decides, none_accepts, SameOutputs, refusal_changes_nothing, SamePast, past_unchanged, SameLengths, lengths_stay, work_kept, work_zero}
use Rattle.claims.specs.Paths.{CycleReached, LongPath, Orderly}
use Rattle.claims.specs.Refusals.{Refuses, IsAccepted, Numbered, number_of}
use Rattle.claims.specs.Results.{result_accepted, again, again_accepted}
use Rattle.claims.specs.Rooms.{Kept, Roomier}
use Rattle.claims.proofs.Rooms.{more_room, wider}

-- DEMAND 1 ----------------------------------------------------------------------------------------
-- Whatever bytes, limit and lent room it is given, every entry point ends with acceptance or one numbered refusal, checked in a fixed
-- order. A refused call leaves every output as it found it.

module _ (c : Call) (i : Input) (m : Room) where
  -- every reply has one of the numbers 0 to 13, and 0 is acceptance
  pub reply_numbered : Numbered (outcome c i m).reply
  reply_numbered = number_of (outcome c i m).reply

  -- the first refusal of the call's list that applies is the reply
  pub in_order : (r : Reply) → first (refusals c i m) ≡ Some r → (outcome c i m).reply ≡ r
  in_order = first_decides c i m

  -- if none applies the call is accepted
  pub or_accepted_lem : first (refusals c i m) ≡ None → IsAccepted (outcome c i m)
  or_accepted_lem = none_accepts c i m

  -- a refused call leaves every output as it found it
  pub refused_leaves : Refuses (outcome c i m).reply → SameOutputs (outcome c i m).room (lent c m)
  refused_leaves = refusal_changes_nothing c i m

  -- after acceptance output past the result is unchanged
  pub past_leaves : (n k : ℕ) → (outcome c i m).reply ≡ Accepted n k → SamePast n k (outcome c i m).room (lent c m)
  past_leaves = past_unchanged c i m

  -- the work room is unchanged after 13, 2 and 1, and all zero after every other reply
  pub work_left : leaves_work (outcome c i m).reply ≡ true → (outcome c i m).room.work ≡ (lent c m).work
  work_left = work_kept c i m

  pub work_cleared : leaves_work (outcome c i m).reply ≡ false → (outcome c i m).room.work ≡ replicate (length (lent c m).work) 0
  work_cleared = work_zero c i m

  -- no lent buffer changes its length
  pub same_lengths : SameLengths (outcome c i m).room (lent c m)
  same_lengths = lengths_stay c i m

-- DEMAND 2 ----------------------------------------------------------------------------------------
-- Nodes, roots, id lists and replies equal the definitions.

-- any two outcomes that satisfy a call's contract are one
pub determined : (c : Call) (i : Input) (m : Room) (o o' : Outcome) → Satisfies c i m o → Satisfies c i m o' → o ≡ o'
determined = one_outcome

-- the definitions give K1 to K12
pub examples_hold : Every Holds table
examples_hold = examples

-- DEMAND 3 ----------------------------------------------------------------------------------------
-- For a merge past its checks of limit, sizes, records and ranges:

module _ (limit : ℕ) (i : Input) (m : Room) (past : Passes limit i m) where
  -- Cycle only if a cycle can be reached from some root, and the named node lies on it;
  pub cycle_only : (p : ℕ) → (merge limit i m).reply ≡ Cycle p → (c : CycleReached (graph i) (roots_of i)) × (c.on ≡ p)
  cycle_only = cycle_only_if limit i m past

  -- TooDeep only if a path from a root holds more distinct nodes than the limit;
  pub too_deep_only : (p : ℕ) → (merge limit i m).reply ≡ TooDeep p → LongPath (graph i) (roots_of i) limit
  too_deep_only = deep_only_if limit i m past

  -- otherwise no cycle can be reached.
  pub otherwise : ((p : ℕ) → (merge limit i m).reply ≢ Cycle p) → ((p : ℕ) → (merge limit i m).reply ≢ TooDeep p) → ¬ CycleReached (graph i) (roots_of i)
  otherwise = otherwise_none limit i m past

  -- With a limit of at least the node count TooDeep never comes.
  pub never_too_deep : node_sum i.table ≤ limit → (p : ℕ) → (merge limit i m).reply ≢ TooDeep p
  never_too_deep = never_deep limit i m past

  -- If the second call passes those checks too, a larger limit changes no answer but TooDeep, nor anything else of the outcome,
  pub with_larger_limit : (k : ℕ) → Passes k i m → limit ≤ k → ((p : ℕ) → (merge limit i m).reply ≢ TooDeep p) → merge k i m ≡ merge limit i m
  with_larger_limit k = larger_limit limit k i m past

  -- more output room none but NoRoom, and what was accepted keeps its records, roots and id list,
  pub with_more_room : (m' : Room) → Passes limit i m' → Roomier m m' → ((n k : ℕ) → (merge limit i m).reply ≢ NoRoom n k) → Kept (merge limit i m) (merge limit i m')
  with_more_room m' = more_room limit i m m' past

  -- also where both change.
  pub with_both : (k : ℕ) (m' : Room) → Passes k i m' → limit ≤ k → Roomier m m' → ((p : ℕ) → (merge limit i m).reply ≢ TooDeep p) → ((n j : ℕ) → (merge limit i m).reply ≢ NoRoom n j)
      → Kept (merge limit i m) (merge k i m')
  with_both k m' = wider limit k i m m' past

-- MERGE -------------------------------------------------------------------------------------------

-- An accepted merge writes a result whose nodes and roots never outnumber the input's, whose children are below their parents, of which no two
-- nodes are equal, and in which every root, child and id is in range.
pub merge_writes : (limit : ℕ) (i : Input) (m : Room) → IsAccepted (merge limit i m) → (r : Result) × (merge limit i m ≡ accept m r) × Sane i r
merge_writes = merge_sane

-- Its records pass Validate.
pub merge_passes : (limit : ℕ) (i : Input) (m : Room) → Octets i.nodes → (n k : ℕ) → (merge limit i m).reply ≡ Accepted n k → validate (take (size * n) (merge limit i m).room.nodes) ≡ Accepted n 0
merge_passes limit i m octets n k e = merge_valid limit i m (record { nodes = n; roots = k; says = e }) octets n k e

-- CANONICALIZE ------------------------------------------------------------------------------------

-- With the checks before it met, it is accepted exactly if external digests differ, children are in range and no cycle runs through them.
pub canonicalize_accepts : (i : Input) (m : Room) → first (canonicalize_checks i m) ≡ None → IsAccepted (canonicalize i m) ↔ Orderly (nodes_of i.nodes)
canonicalize_accepts = accepted_exactly_if

module _ (i : Input) (m : Room) (octets : Octets i.nodes) (accepted : IsAccepted (canonicalize i m)) where
  -- Its result passes Validate,
  pub canonicalize_valid : validate (canonicalize i m).room.nodes ≡ Accepted (length (nodes_of i.nodes)) 0
  canonicalize_valid = result_accepted i m (canonicalize_cleared i m accepted) octets

  -- canonicalizing that again is accepted wherever its checks are met,
  pub canonicalize_again : (j : Input) (r : Room) → j.nodes ≡ (canonicalize i m).room.nodes → first (canonicalize_checks j r) ≡ None → IsAccepted (canonicalize j r)
  canonicalize_again = again_accepted i m (canonicalize_cleared i m accepted) octets

  -- and changes no id.
  pub canonicalize_keeps : (j : Input) (r : Room) → j.nodes ≡ (canonicalize i m).room.nodes → IsAccepted (canonicalize j r) → (canonicalize j r).room.ids ≡ run 0 (length (nodes_of i.nodes))
  canonicalize_keeps = again i m (canonicalize_cleared i m accepted) octets
