use Rattle.dense_order.proofs.Releasing.{all_settled}
use Rattle.dense_order.proofs.order.settle_and_release.Goals as goal

pub release-requires : goal.release-requires
release-requires c = record { begun = all_settled c.requires.begun.0 c.requires.begun.1 c.settle_all.ensures; order_long = c.requires.order_long }
