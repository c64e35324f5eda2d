use Rattle.dense_order.specs.Marks.{new_id}
use Rattle.dense_order.proofs.Records.{moving_start, moving_inside, moving_ready, moving_step}
use Rattle.dense_order.proofs.deliver.write_nodes.Goals as goal

pub loop-k-init : goal.loop-k-init
loop-k-init c = moving_start c.requires

pub node_at-node-requires : goal.node_at-node-requires
node_at-node-requires c = moving_inside c.requires c.loop-k-test.true

pub renumbered-requires : goal.renumbered-requires
renumbered-requires c =
    let m = moving_ready c.requires c.loop-k-test.true _ c.node_at-node.ensures in
    record { count_le_fields = m.0; callable = m.1 }

pub loop-k-preserved : goal.loop-k-preserved
loop-k-preserved c = moving_step c.requires c.loop-k.invariant _ _ c.loop-k-test.true c.node_at-node.ensures (c.renumbered.ensures (new_id c.args.marks.now) (λ i d h p. p)) c.put_node.ensures
