use Rattle.claims.specs.Searches.{get_d_mem}
use Rattle.dense_order.proofs.Filling.{filled_step}
use Rattle.dense_order.proofs.deliver.write_roots.Goals as goal

pub new_id-requires : goal.new_id-requires
new_id-requires c = c.requires.by_index _ (get_d_mem c.args.roots.now c.loop-i.i 0 c.loop-i-test.true)

pub loop-i-preserved : goal.loop-i-preserved
loop-i-preserved c = filled_step c.loop-i.invariant c.loop-i-test.true c.new_id.ensures
