use mathlib.Core.Path.{refl}
use Rattle.dense_order.specs.Marks.{new_id}
use Rattle.dense_order.proofs.deliver.new_id.Goals as goal

pub returns : goal.returns
unfolding new_id
returns c = refl
