-- Demand 3: what a merge past its first checks has found of its input. What its answers say stands in proofs/Cycles.
-- Assumes nothing.
use Rattle.std.specs.Prelude.{ℕ, ◌*◌, ◌≤◌, ◌≡◌, ltb, length, None}
use Rattle.std.proofs.Common.{arith, ltb-false, eqb-true}
use Rattle.std.proofs.lemmas.Bool.{not-false}
use Rattle.record.specs.Node.{size, nodes_of}
use Rattle.record.proofs.Basics.{either_false}
use Rattle.record.proofs.Nodes.{length_nodes_of}
use Rattle.forest.specs.Canonicalize.{root_range, child_range}
use Rattle.forest.specs.Graph.{far_root, far_child}
use Rattle.forest.specs.Lent.{Input, Room, most, first}
use Rattle.forest.specs.Merge.{node_sum, forests_of, graph, roots_of, merge_checks}
use Rattle.forest.specs.Validate.{bad_record}
use Rattle.claims.specs.Checks.{first_none, naming_none, when_none}
use Rattle.claims.specs.Ranges.{joined_count, Bounded, forests_bounded}

-- the checks of limit, sizes, records and ranges are passed
abbrev pub Passes : ℕ → Input → Room → Type 0
Passes limit i m = first (merge_checks limit i m) ≡ None

-- what the checks found of sizes, records and ranges
pub record Checked (i : Input) (m : Room) : Type 0 where
  pub few : node_sum i.table ≤ most
  pub nodes_long : length i.nodes ≡ size * node_sum i.table
  pub ids_long : length m.ids ≡ node_sum i.table
  pub good : bad_record i.nodes ≡ None
  pub near_roots : far_root (forests_of i) ≡ None
  pub near_children : far_child (forests_of i) ≡ None

pub checked : (limit : ℕ) (i : Input) (m : Room) → Passes limit i m → Checked i m
unfolding merge_checks root_range child_range
checked limit i m e =
    let e1 = (first_none _ _ e).1 in
    let (a1, e2) = first_none _ _ e1 in
    let (a3, e3) = first_none _ _ (first_none _ _ e2).1 in
    let e4 = (first_none _ _ e3).1 in
    let (a5, e5) = first_none _ _ e4 in
    let e6 = (first_none _ _ e5).1 in
    let (a7, e7) = first_none _ _ e6 in
    let (a8, e8) = first_none _ _ e7 in
    let (a9, e9) = first_none _ _ e8 in
    record {
      few = ltb-false _ _ (either_false (ltb most (node_sum i.table)) _ (when_none _ _ a1)).0;
      nodes_long = eqb-true _ _ (not-false _ (when_none _ _ a3));
      ids_long = eqb-true _ _ (not-false _ (when_none _ _ a5));
      good = a7;
      near_roots = naming_none _ _ a8;
      near_children = naming_none _ _ a9;
    }

-- as many records are read as the table counts
pub records_counted : (limit : ℕ) (i : Input) (m : Room) → Passes limit i m → length (nodes_of i.nodes) ≡ node_sum i.table
records_counted limit i m past = let a = (checked limit i m past).nodes_long in let b = length_nodes_of i.nodes in omega arith

-- the joined graph has them all
pub graph_counted : (limit : ℕ) (i : Input) (m : Room) → Passes limit i m → length (graph i) ≡ node_sum i.table
unfolding graph forests_of node_sum
graph_counted limit i m past = joined_count 0 _ _ _ (records_counted limit i m past)

-- positions, children and roots stay below the node count
pub bounded : (limit : ℕ) (i : Input) (m : Room) → Passes limit i m → Bounded (node_sum i.table) (graph i) (roots_of i)
unfolding node_sum graph roots_of forests_of
bounded limit i m past = let c = checked limit i m past in forests_bounded _ _ _ (records_counted limit i m past) c.near_roots c.near_children
