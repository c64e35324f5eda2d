use Rattle.abi.proofs.Telling.{leaves}
use Rattle.abi.proofs.forest_merge.Goals as goal

pub returns : goal.returns
returns c = leaves c.merge-reply.ensures c.answer.ensures
