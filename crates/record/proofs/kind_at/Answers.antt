use Rattle.record.specs.Node.{node_at, record_at}
use Rattle.record.proofs.kind_at.Goals as goal

pub returns : goal.returns
unfolding node_at record_at
returns c = cc
