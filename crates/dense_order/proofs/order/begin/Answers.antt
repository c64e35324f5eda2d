use Rattle.dense_order.proofs.Finishing.{space_blocks, begins}
use Rattle.dense_order.proofs.order.begin.Goals as goal

pub list_class-requires : goal.list_class-requires
list_class-requires c = space_blocks c.requires.fair c.requires.n_in_bounds c.requires.externals

pub returns : goal.returns
returns c = begins c.requires.fair c.requires.n_in_bounds c.requires.externals c.list_class.auto.list c.list_class.ensures
