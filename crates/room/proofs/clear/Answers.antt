use Rattle.room.proofs.Writes.{puts_whole}
use Rattle.room.proofs.clear.Goals as goal

pub returns : goal.returns
returns c = let p = c.clear_part in puts_whole _ _ _ p.auto.work p.ensures
