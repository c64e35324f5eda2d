-- What Merge's checks found, once they are passed.
-- Assumes nothing.
use Prim.Native.Nat.{ℕ, ◌*◌, ◌≤◌}
use mathlib.Core.Path.{◌≡◌, ◌∙◌}
use mathlib.Core.List.{List}
use native.Mathlib.Omega.{arith}
use lib.Dec.{ltb}
use borrow.Author.Tests.{ltb-false, eqb-true, not-false}
use lib.ListN.{length}
use Rattle.record.specs.Node.{size, rows_of}
use Rattle.record.proofs.Basics.{either_false}
use Rattle.forest.specs.Lent.{Input, Room, work_words, most}
use Rattle.forest.specs.Merge.{most_forests, node_sum, root_sum, merge_checks}
use Rattle.claims.specs.Checks.{first_none, when_none, first_append}
use Rattle.claims.specs.Cycles.{Passes}
use Rattle.merger.specs.Steps.{size_checks, range_checks, Sized, Past}
use Rattle.merger.specs.Table.{Few}
use Rattle.merger.proofs.Sums.{length_rows_of}

-- lengths that the checks of sizes let pass
pub record Fits (i : Input) (w c : List ℕ) : Type 0 where
  pub few : Few i.table
  pub most_nodes : node_sum i.table ≤ most
  pub nodes : length i.nodes ≡ size * node_sum i.table
  pub roots : length i.roots ≡ root_sum i.table
  pub list : length c ≡ node_sum i.table
  pub room : work_words * node_sum i.table ≤ length w

pub sizes_fit : {limit : ℕ} {i : Input} {w : List ℕ} (z : Sized limit i w) → Fits i w z.room.ids
unfolding size_checks
sizes_fit {limit} {i} {w} z =
    let (a0, e1) = first_none _ _ z.passes in
    let (a1, e2) = first_none _ _ e1 in
    let (a2, e3) = first_none _ _ e2 in
    let (a3, e4) = first_none _ _ e3 in
    let (a4, e5) = first_none _ _ e4 in
    let (a5, e6) = first_none _ _ e5 in
    let (a6, e7) = first_none _ _ e6 in
    let (b, d) = either_false (ltb most (node_sum i.table)) _ (when_none _ _ a1) in
    let rows : length (rows_of i.table) ≤ most_forests = ltb-false _ _ (either_false (ltb most (root_sum i.table)) _ d).1 in
    let words : work_words * node_sum i.table ≤ length z.room.work = ltb-false _ _ (when_none _ _ a6) in
    let long = z.long in
    record {
      few = omega (arith, length_rows_of i.table);
      most_nodes = ltb-false _ _ b;
      nodes = eqb-true _ _ (not-false _ (when_none _ _ a3));
      roots = eqb-true _ _ (not-false _ (when_none _ _ a4));
      list = eqb-true _ _ (not-false _ (when_none _ _ a5));
      room = omega arith;
    }

-- they are the checks before the walk
pub passes : {limit : ℕ} {i : Input} {w : List ℕ} (p : Past limit i w) → Passes limit i p.sized.room
unfolding merge_checks size_checks range_checks
passes {limit} {i} p =
    let m : Room = p.sized.room in
    first_append (size_checks limit i.table (length i.nodes) (length i.roots) (length m.ids) (length m.work)) (range_checks i) p.sized.passes ∙ p.ranged
