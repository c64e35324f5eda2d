use Rattle.merger.specs.Walking.{merged_at}
use Rattle.merger.proofs.Kids.{kids_ended}
use Rattle.merger.proofs.merging.merged_node.Goals as goal

pub renumbered-requires-clause-callable : goal.renumbered-requires-clause-callable
renumbered-requires-clause-callable c = kids_ended c.requires _ c.node_at.ensures

pub returns : goal.returns
unfolding merged_at
returns c = rw (← c.node_at.ensures) (c.renumbered.ensures _ (λ i d h e. e))
