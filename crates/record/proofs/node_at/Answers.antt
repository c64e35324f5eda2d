use Rattle.record.specs.Node.{node_at, record_at}
use Rattle.std.proofs.lemmas.List.{map-id}
use Rattle.record.proofs.node_at.Goals as goal

pub returns : goal.returns
unfolding node_at record_at
returns c = rw (c.u32_at.ensures, c.u32_at-2.ensures, ← c.words_at.ensures, ← c.words_at-2.ensures, map-id c.words_at.result, map-id c.words_at-2.result)
