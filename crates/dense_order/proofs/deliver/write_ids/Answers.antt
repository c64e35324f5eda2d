use Prim.Native.Nat.{◌<◌}
use native.Mathlib.Omega.{arith}
use lib.ListN.{length}
use Rattle.record.proofs.Lengths.{length_run}
use Rattle.dense_order.proofs.Filling.{filled_start, filled_step, filled_end, ids_at}
use Rattle.dense_order.proofs.deliver.write_ids.Goals as goal

pub loop-p-init : goal.loop-p-init
loop-p-init c = filled_start _ _ _ (omega (arith, length_run 0 (length c.args.marks.now)))

pub new_id-requires : goal.new_id-requires
new_id-requires c =
    let below : c.loop-p.p < length c.args.marks.now = (let e = c.requires.ids_len in omega arith) in
    (below, c.requires.by_index _ below)

pub loop-p-preserved : goal.loop-p-preserved
loop-p-preserved c =
    let below : c.loop-p.p < length c.args.marks.now = (let e = c.requires.ids_len in omega arith) in
    filled_step c.loop-p.invariant (omega (arith, length_run 0 (length c.args.marks.now))) (rw (ids_at _ _ below) c.new_id.ensures)

pub returns : goal.returns
returns c = filled_end c.loop-p.invariant (omega (arith, length_run 0 (length c.args.marks.now)))
