use Prim.Native.Nat.{◌+◌}
use mathlib.Core.Path.{refl}
use native.Mathlib.Omega.{arith}
use lib.ListN.{length, get_or}
use Rattle.merger.specs.Rooms.{Ends}
use Rattle.merger.proofs.Mentioning.{mentioning_start, mentioning_ends, mentioning_again, mentioning_room, mentioning_new, mentioning_end}
use Rattle.merger.proofs.result.list_roots.Goals as goal
use Rattle.merger.proofs.result.list_roots.Goals.{After-at_root-at}

ends : (c : After-at_root-at) → Ends c.args.states.now (length c.args.listed.now) (c.at_root-at.result.base + get_or c.args.roots.now c.loop-k.k 0)
ends c = mentioning_ends c.requires c.loop-k.invariant c.loop-k-test.true _ c.at_root-at.ensures

pub loop-k-init : goal.loop-k-init
loop-k-init c = mentioning_start c.requires _ c.start-at.ensures

pub overflow_add-id : goal.overflow_add-id
overflow_add-id c = let e = ends (goal.at.overflow_add-id c).After-at_root-at in omega arith

pub offset_bounds-states-at : goal.offset_bounds-states-at
offset_bounds-states-at c = let e = ends (goal.at.offset_bounds-states-at c).After-at_root-at in omega arith

pub bounds-states-at : goal.bounds-states-at
bounds-states-at c = (ends (goal.at.bounds-states-at c).After-at_root-at).below

pub overflow_sub-id : goal.overflow_sub-id
overflow_sub-id c = let e = ends (goal.at.overflow_sub-id c).After-at_root-at in omega arith

pub bounds-listed-id : goal.bounds-listed-id
bounds-listed-id c = let e = ends (goal.at.bounds-listed-id c).After-at_root-at in omega arith

pub loop-k-preserved-then-listed-id-eq1 : goal.loop-k-preserved-then-listed-id-eq1
loop-k-preserved-then-listed-id-eq1 c = mentioning_again c.requires c.loop-k.invariant c.loop-k-test.true _ c.at_root-at.ensures _ refl c.if-listed-id-eq1.true

pub bounds-listed-id-in-loop-k : goal.bounds-listed-id-in-loop-k
bounds-listed-id-in-loop-k c = let e = ends (goal.at.bounds-listed-id-in-loop-k c).After-at_root-at in omega arith

pub bounds-starts-count : goal.bounds-starts-count
bounds-starts-count c = omega (arith, mentioning_room c.requires c.loop-k.invariant c.loop-k-test.true _ c.at_root-at.ensures _ refl c.if-listed-id-eq1.false)

pub loop-k-preserved : goal.loop-k-preserved
loop-k-preserved c = mentioning_new c.requires c.loop-k.invariant c.loop-k-test.true _ c.at_root-at.ensures _ refl c.if-listed-id-eq1.false

pub returns : goal.returns
returns c = mentioning_end c.requires c.loop-k.invariant c.loop-k-test.false
