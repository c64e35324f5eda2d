-- Canonicalize's result as bytes: it passes Validate, and canonicalizing it again changes no id.
-- Assumes nothing.
use Rattle.std.specs.Prelude.{ℕ, ◌+◌, ◌*◌, ◌^◌, ◌/◌, ◌%◌, ◌<◌, ◌≤◌, ◌≡◌, ltb, None}
use Rattle.std.proofs.Common.{sym, ◌∙◌, drop_of_length-le}
use Rattle.std.proofs.Math.Path.{ap}
use mathlib.Core.List.{List, Memᴰ, append-nil}
use native.Mathlib.Omega.{arith}
use borrow.Author.Tests.{ltb-false, eqb-true, not-false, le-ltb}
use Rattle.std.proofs.Math.ListN.{length, length-map}
use Rattle.record.specs.Lists.{run, over, flat}
use Rattle.record.specs.Node.{size, nodes_of, node_bytes, bad}
use Rattle.record.specs.declared.Node.{Node}
use Rattle.record.proofs.Basics.{either_false}
use Rattle.record.proofs.Nodes.{Written, written_renumber, written_fits, length_nodes_of, length_records, nodes_back}
use Rattle.record.proofs.RoundTrip.{Octets, Fits}
use Rattle.forest.specs.Canonicalize.{child_range, canonicalize_checks, disorders, canonicalize_refusals, canonical, canonicalize}
use Rattle.forest.specs.Graph.{no_node, at}
use Rattle.forest.specs.Lent.{Input, Room, most, accept, when, naming, first, answered}
use Rattle.forest.specs.Order.{ids, externals, order, repeat, arranged}
use Rattle.forest.specs.Validate.{bad_record, node_faults, validate_refusals, or_accepted, validate}
use Rattle.forest.specs.declared.Reply.TheVariants.{Accepted}
use Rattle.claims.specs.Accepting.{far_inside, unreleased_all, records_bare, accepted_exactly_if}
use Rattle.claims.specs.Again.{valid, ids_stay, valid_orderly}
use Rattle.claims.specs.Checks.{first_none, naming_none, when_none, first_both}
use Rattle.claims.specs.Children.{parent_below}
use Rattle.claims.specs.Origins.{Each, arranged_each, canonical_records, records_written, no_node_written}
use Rattle.claims.specs.Passing.{result_passes}
use Rattle.claims.specs.Paths.{HasChild}
use Rattle.claims.specs.Refusals.{canonicalize_refuses, IsAccepted, accepted_past}
use Rattle.claims.specs.Releases.{length_order}
use Rattle.claims.specs.Searches.{none_lowest, mem_at}

-- children that are below their parents fit, so nodes that pass Validate's tests fit
passing_fits : (ns : List Node) → Each Written ns → length ns ≤ most → first (node_faults ns) ≡ None → Each Fits ns
unfolding at
passing_fits ns w few e n m =
    let (p, q) = mem_at no_node m in
    written_fits n (w n m) (λ c k. small p c (rw q k))
  where
    small : (p c : ℕ) → HasChild ns p c → c < 256 ^ 4
    small p c k = let a = (valid ns e).kids p c k in let b = parent_below ns p c k in omega arith

-- nodes of records that are not bad, written in an order that passes Validate's tests, are read again and accepted by Validate
pub written_back : (ns : List Node) → Each Written ns → length ns ≤ most → first (node_faults ns) ≡ None → nodes_of (flat node_bytes ns) ≡ ns
written_back ns w few e = nodes_back ns (passing_fits ns w few e)

pub validates : (ns : List Node) → Each Written ns → length ns ≤ most → first (node_faults ns) ≡ None → validate (flat node_bytes ns) ≡ Accepted (length ns) 0
unfolding validate validate_refusals bad_record first when naming or_accepted
validates ns w few e =
    let l : length (flat node_bytes ns) ≡ size * length ns = length_records ns (λ n m. (w n m).full) in
    let a : length (flat node_bytes ns) / size ≡ length ns = omega arith in
    let b : length (flat node_bytes ns) % size ≡ 0 = omega arith in
    rw (a, b, le-ltb most (length ns) few, written_back ns w few e, none_lowest bad ns (λ n m. (w n m).passes)) (ap (or_accepted (length ns)) e)

-- CANONICALIZE'S OUTPUT ---------------------------------------------------------------------------

-- the forest that Canonicalize is given, and the nodes that it answers
abbrev pub forest : Input → List Node
forest i = nodes_of i.nodes

abbrev pub result : Input → List Node
result i = arranged (forest i) (order (forest i))

module _ (i : Input) (m : Room) (past : first (canonicalize_refusals i m) ≡ None) where
  -- what its checks found
  pub record Cleared : Type 0 where
    pub few : length i.nodes / size ≤ most
    pub whole : length i.nodes % size ≡ 0
    pub as_long : length m.nodes ≡ length i.nodes
    pub roots_long : length m.roots ≡ length i.roots
    pub ids_long : length m.ids ≡ length i.nodes / size
    pub good : bad_record i.nodes ≡ None
    pub differ : repeat (forest i) (externals (forest i)) ≡ None
    pub inside : (p c : ℕ) → HasChild (forest i) p c → c < length (forest i)
    pub all_in : (x : ℕ) → x < length (forest i) → Memᴰ x (order (forest i))

  pub cleared : Cleared
  unfolding canonicalize_refusals canonicalize_checks disorders child_range
  cleared =
      let (s, t) = first_both (canonicalize_checks i m) (disorders (forest i)) past in
      let (s0, s1) = first_none _ _ s in
      let (a1, s2) = first_none _ _ s1 in
      let (a2, s3) = first_none _ _ s2 in
      let (a3, s4) = first_none _ _ s3 in
      let (a4, s5) = first_none _ _ s4 in
      let s6 = (first_none _ _ s5).1 in
      let (t0, t1) = first_none _ _ t in
      let (t2, t3) = first_none _ _ t1 in
      record {
        few = ltb-false _ _ (either_false (ltb most (length i.nodes / size)) _ (when_none _ _ s0)).0;
        whole = eqb-true _ _ (not-false _ (when_none _ _ a1));
        as_long = eqb-true _ _ (not-false _ (when_none _ _ a2));
        roots_long = eqb-true _ _ (not-false _ (when_none _ _ a3));
        ids_long = eqb-true _ _ (not-false _ (when_none _ _ a4));
        good = (first_none _ _ s6).0;
        differ = naming_none _ _ t0;
        inside = far_inside (forest i) (naming_none _ _ t2);
        all_in = unreleased_all (forest i) (naming_none _ _ (first_none _ _ t3).0);
      }

  pub length_result : length (result i) ≡ length (forest i)
  unfolding arranged
  length_result = length-map (order (forest i)) _ ∙ length_order (forest i) cleared.all_in

  -- the result passes Validate's tests
  pub result_passing : first (node_faults (result i)) ≡ None
  result_passing = result_passes (forest i) (records_bare i.nodes cleared.good) cleared.differ

  -- the node output is the result's records, and nothing else
  pub output : (canonicalize i m).room.nodes ≡ flat node_bytes (result i)
  unfolding canonicalize answered accept canonical over
  output = rw (past, answered) (rw (drop_of_length-le m.nodes covered) (append-nil (flat node_bytes (result i))))
    where
      covered : length m.nodes ≤ 0 + length (flat node_bytes (result i))
      covered =
          let a : length (flat node_bytes (result i)) ≡ size * length (result i) = canonical_records i in
          let b = length_result in
          let c = length_nodes_of i.nodes in
          let d = cleared.whole in
          let e = cleared.as_long in
          omega arith

  module _ (octets : Octets i.nodes) where
    result_written : Each Written (result i)
    result_written = arranged_each Written written_renumber no_node_written (forest i) (records_written i.nodes octets cleared.good) (order (forest i))

    result_few : length (result i) ≤ most
    result_few = let a = length_result in let b = length_nodes_of i.nodes in let c = cleared.few in omega arith

    -- Canonicalize's result passes Validate
    pub result_accepted : validate (canonicalize i m).room.nodes ≡ Accepted (length (forest i)) 0
    result_accepted = rw (output, sym length_result) (validates (result i) result_written result_few result_passing)

    -- its records are read again as they were
    output_nodes : (j : Input) → j.nodes ≡ (canonicalize i m).room.nodes → nodes_of j.nodes ≡ result i
    output_nodes j e = ap nodes_of (e ∙ output) ∙ written_back (result i) result_written result_few result_passing

    -- canonicalizing that again changes no id
    pub again : (j : Input) (r : Room) → j.nodes ≡ (canonicalize i m).room.nodes → IsAccepted (canonicalize j r) → (canonicalize j r).room.ids ≡ run 0 (length (forest i))
    unfolding canonicalize answered accept canonical ids
    again j r e p =
        rw (accepted_past r (canonicalize_refusals j r) (canonical (nodes_of j.nodes) j.roots) (canonicalize_refuses j r) p, answered, output_nodes j e)
        (ids_stay (result i) result_passing ∙ ap (run 0) length_result)

    -- and is accepted wherever its checks are cleared
    pub again_accepted : (j : Input) (r : Room) → j.nodes ≡ (canonicalize i m).room.nodes → first (canonicalize_checks j r) ≡ None → IsAccepted (canonicalize j r)
    again_accepted j r e p = (accepted_exactly_if j r p).1 (rw (output_nodes j e) (valid_orderly (result i) (valid (result i) result_passing)))
