use Rattle.dense_order.proofs.Records.{wrote_start, wrote_step, wrote_over}
use Rattle.merger.proofs.Writing.{merged_full}
use Rattle.merger.proofs.deliver.write_nodes.Goals as goal

pub loop-j-init : goal.loop-j-init
loop-j-init c = wrote_start _ _ _ c.requires.in_bounds

pub loop-j-preserved : goal.loop-j-preserved
loop-j-preserved c = wrote_step (merged_full _ _ _) c.loop-j.invariant c.loop-j-test.true (rw (c.put_node.ensures, c.merged_node.ensures))

pub returns : goal.returns
returns c = wrote_over (merged_full _ _ _) c.loop-j.invariant c.loop-j-test.false
