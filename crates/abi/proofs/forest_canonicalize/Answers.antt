use Rattle.abi.proofs.Telling.{leaves}
use Rattle.abi.proofs.forest_canonicalize.Goals as goal

pub returns : goal.returns
returns c = leaves c.canonicalize-reply.ensures c.answer.ensures
