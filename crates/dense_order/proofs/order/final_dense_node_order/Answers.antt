use Rattle.dense_order.proofs.Finishing.{orders}
use Rattle.dense_order.proofs.order.final_dense_node_order.Goals as goal

pub returns : goal.returns
returns c =
    let k = c.complete-filled in
    orders c.requires.fair k.ensures.unmarked k.ensures.whole c.mark_places.auto.work c.mark_places.ensures c.first_unplaced.ensures
