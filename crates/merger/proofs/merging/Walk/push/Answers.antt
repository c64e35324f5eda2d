use Rattle.merger.proofs.Pushing.{own_readable, each_readable, room_left, own_count, found_low, pushed_equal, pushed_new}
use native.Mathlib.Omega.{arith}
use Rattle.merger.proofs.merging.Walk.push.Goals as goal

pub merged-node-requires : goal.merged-node-requires
merged-node-requires c = own_readable c.requires.pushing

pub find_equal-requires-clause-readable : goal.find_equal-requires-clause-readable
find_equal-requires-clause-readable c = each_readable c.requires.pushing

pub find_equal-requires-clause-in_bounds : goal.find_equal-requires-clause-in_bounds
find_equal-requires-clause-in_bounds c = let q = c.requires.pushing in omega (arith, room_left q, q.holds.wide)

pub find_equal-requires-clause-count_le_fields : goal.find_equal-requires-clause-count_le_fields
find_equal-requires-clause-count_le_fields c = own_count c.requires.pushing _ c.merged-node.ensures

pub overflow_add-self : goal.overflow_add-self
overflow_add-self c =
    let q = c.requires.pushing in
    let z = found_low q _ c.merged-node.ensures _ c.find_equal.ensures _ c.in-Some.is in omega (arith, z, room_left q, q.mapped.few)

pub overflow_cast-self : goal.overflow_cast-self
overflow_cast-self c =
    let q = c.requires.pushing in
    let z = found_low q _ c.merged-node.ensures _ c.find_equal.ensures _ c.in-Some.is in omega (arith, z, room_left q, q.mapped.few)

pub returns-in-Some-clause-came : goal.returns-in-Some-clause-came
returns-in-Some-clause-came c = λ g path t q. pushed_equal q _ c.merged-node.ensures _ c.find_equal.ensures _ c.in-Some.is

pub offset_bounds-self-count : goal.offset_bounds-self-count
offset_bounds-self-count c = let q = c.requires.pushing in omega (arith, room_left q, q.mapped.few)

pub bounds-self-count : goal.bounds-self-count
bounds-self-count c = let q = c.requires.pushing in omega (arith, room_left q, q.holds.wide)

pub overflow_add-self-2 : goal.overflow_add-self-2
overflow_add-self-2 c = let q = c.requires.pushing in omega (arith, room_left q, q.mapped.few)

pub overflow_cast-self-3 : goal.overflow_cast-self-3
overflow_cast-self-3 c = let q = c.requires.pushing in omega (arith, room_left q, q.mapped.few)

pub overflow_add-result : goal.overflow_add-result
overflow_add-result c = let q = c.requires.pushing in omega (arith, room_left q, q.mapped.few)

pub returns-clause-came : goal.returns-clause-came
returns-clause-came c = λ g path t q. pushed_new q _ c.merged-node.ensures _ c.find_equal.ensures c.in_default.is
