use mathlib.Core.Path.{◌∙◌, sym}
use Rattle.std.proofs.lemmas.List.{map-id}
use Rattle.record.specs.Node.{node_at, record_at}
use Rattle.record.proofs.digest_at.Goals as goal

pub returns : goal.returns
unfolding node_at record_at
returns c = sym (map-id c.words_at.result) ∙ c.words_at.ensures
