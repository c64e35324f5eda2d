use Rattle.record.specs.Node.{row_at}
use Rattle.record.proofs.row_at.Goals as goal

pub returns : goal.returns
unfolding row_at
returns c = cc
