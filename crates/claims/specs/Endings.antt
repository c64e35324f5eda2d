-- How every call ends: with the first refusal that applies, or with a result that fits.
-- Assumes nothing.
use Rattle.std.specs.Prelude.{ℕ, ◌*◌, ◌/◌, ◌≤◌, ◌≡◌, Bool, true, ◌||◌, [], Option, Some, None}
use Rattle.std.proofs.Math.Path.{refl, sym}
use Rattle.std.proofs.Common.{◌∙◌, arith}
use Rattle.std.proofs.Math.Bool.{false}
use Rattle.std.proofs.Math.Dec.{ltb}
use borrow.Author.Tests.{ltb-false}
use Rattle.std.proofs.Math.ListN.{length, length-map}
use Rattle.record.specs.Lists.{run, flat}
use Rattle.record.specs.Node.{size, node_bytes}
use Rattle.record.proofs.Basics.{clash, either_false}
use Rattle.record.proofs.Lengths.{length_run}
use Rattle.record.proofs.Nodes.{length_nodes_of}
use Rattle.forest.specs.Canonicalize.{canonicalize_refusals, canonical, canonicalize}
use Rattle.forest.specs.Lent.{Input, Room, Result, leaves_work, worked, refuse, accept, first, answered}
use Rattle.forest.specs.Merge.{graph, roots_of, merge_checks, stopped, state_of, short, merge_refusals, merged, merge}
use Rattle.forest.specs.Order.{ids, order, place_in}
use Rattle.forest.specs.Validate.{validate_refusals, or_accepted, validate}
use Rattle.forest.specs.Walk.{Walked, going, cycle, deep, walk}
use Rattle.forest.specs.declared.Reply.{Reply}
use Rattle.forest.specs.declared.Reply.TheVariants.{Accepted}
use Rattle.claims.specs.Calls.{Call, validating, canonicalizing, merging, no_room, lent, outcome, refusals}
use Rattle.claims.specs.Checks.{first_none, when_none, first_both}
use Rattle.claims.specs.Cycles.{Passes}
use Rattle.claims.specs.Merges.{merged_ids}
use Rattle.claims.specs.Origins.{canonical_records, merged_records}
use Rattle.claims.specs.Refusals.{Refuses, AllRefuse, first_refuses, validate_refuses, canonicalize_refuses, merge_refuses}
use Rattle.claims.specs.Results.{forest, cleared, length_result}

-- a result that the room can take: whole records, no more than fit, and an id for each entry of the id list
pub record Fitted (m : Room) (r : Result) : Type 0 where
  pub records : length (flat node_bytes r.nodes) ≡ size * length r.nodes
  pub nodes : size * length r.nodes ≤ length m.nodes
  pub roots : length r.roots ≤ length m.roots
  pub ids : length r.ids ≡ length m.ids

-- a call ends with the first refusal of its list, which changes no output, or with a result, of which Validate writes nothing
pub data Ending (c : Call) (i : Input) (m : Room) : Type 0 where
  refused : (r : Reply) → first (refusals c i m) ≡ Some r → Refuses r → outcome c i m ≡ refuse (lent c m) r → Ending c i m
  delivered : (r : Result) → first (refusals c i m) ≡ None → Fitted (lent c m) r → outcome c i m ≡ accept (lent c m) r → Ending c i m
  validated : (n : ℕ) → first (refusals c i m) ≡ None → lent c m ≡ no_room → outcome c i m ≡ record { reply = Accepted n 0; room = no_room } → Ending c i m

-- no work room stays none
pub worked_none : (r : Reply) → worked r [] ≡ []
unfolding worked
worked_none r = go (leaves_work r) refl
  where
    go : (b : Bool) → leaves_work r ≡ b → worked r [] ≡ []
    go true e = rw (e, worked)
    go false e = rw (e, worked)

module _ (i : Input) (m : Room) where
  validate_ends : Ending validating i m
  unfolding outcome refusals lent no_room validate or_accepted refuse
  validate_ends = go (first (validate_refusals i.nodes)) refl
    where
      go : (o : Option Reply) → first (validate_refusals i.nodes) ≡ o → Ending validating i m
      go None e = validated (length i.nodes / size) e refl (rw e)
      go (Some r) e = refused r e (first_refuses (validate_refuses i.nodes) r e) (rw (e, worked_none r))

  answered_ends : (c : Call) (r : Result) → lent c m ≡ m → outcome c i m ≡ answered m (refusals c i m) r → AllRefuse (refusals c i m) → (first (refusals c i m) ≡ None → Fitted m r) → Ending c i m
  unfolding answered
  answered_ends c r l q h s = go (first (refusals c i m)) refl
    where
      go : (o : Option Reply) → first (refusals c i m) ≡ o → Ending c i m
      go None e = delivered r e (rw l (s e)) (q ∙ rw (l, e, answered))
      go (Some x) e = refused x e (first_refuses h x e) (q ∙ rw (l, e, answered))

  canonicalize_ends : Ending canonicalizing i m
  unfolding outcome refusals lent canonicalize canonical ids
  canonicalize_ends = answered_ends canonicalizing (canonical (forest i) i.roots) refl refl (canonicalize_refuses i m) (λ e. fitted e)
    where
      fitted : first (canonicalize_refusals i m) ≡ None → Fitted m (canonical (forest i) i.roots)
      fitted e =
          let c = cleared i m e in
          let l = length_result i m e in
          let n = length_nodes_of i.nodes in
          let a = c.whole in
          let b = c.as_long in
          record {
            records = canonical_records i;
            nodes = omega arith;
            roots = let x = c.roots_long in let y = length-map i.roots (place_in (order (forest i))) in omega arith;
            ids = length-map (run 0 (length (forest i))) _ ∙ (length_run 0 (length (forest i)) ∙ (n ∙ sym c.ids_long));
          }

  module _ (limit : ℕ) where
    w : Walked
    w = walk (graph i) limit (roots_of i)

    merged_fitted : first (merge_refusals limit i m w (merged (graph i) (roots_of i) (state_of w))) ≡ None → Fitted m (merged (graph i) (roots_of i) (state_of w))
    unfolding w merge_refusals stopped state_of short
    merged_fitted e =
        let (past, rest) = first_both (merge_checks limit i m) _ e in
        let (a, b) = first_none _ _ rest in
        go (walk (graph i) limit (roots_of i)) refl past a (when_none _ _ (first_none _ _ b).0)
      where
        go : (v : Walked) → walk (graph i) limit (roots_of i) ≡ v → Passes limit i m → stopped v ≡ None
            → (ltb (length m.nodes / size) (length (merged (graph i) (roots_of i) (state_of v)).nodes) || ltb (length m.roots) (length (merged (graph i) (roots_of i) (state_of v)).roots)) ≡ false
            → Fitted m (merged (graph i) (roots_of i) (state_of v))
        go (going s) q past h f =
            let (x, y) = either_false (ltb (length m.nodes / size) _) _ f in
            let u : length (merged (graph i) (roots_of i) s).nodes ≤ length m.nodes / size = ltb-false _ _ x in
            record { records = merged_records i limit s q; nodes = omega arith; roots = ltb-false _ _ y; ids = merged_ids limit i m past s }
        go (cycle p) q past h f = absurd (clash (cc))
        go (deep p) q past h f = absurd (clash (cc))

    merge_ends : Ending (merging limit) i m
    unfolding outcome refusals lent merge w
    merge_ends = answered_ends (merging limit) (merged (graph i) (roots_of i) (state_of w)) refl refl (merge_refuses limit i m w _) merged_fitted

pub ending : (c : Call) (i : Input) (m : Room) → Ending c i m
ending validating i m = validate_ends i m
ending canonicalizing i m = canonicalize_ends i m
ending (merging limit) i m = merge_ends i m limit
