use Rattle.merger.proofs.Handing.{readable, delivered}
use Rattle.merger.proofs.deliver.deliver.Goals as goal

pub write_nodes-requires-clause-readable : goal.write_nodes-requires-clause-readable
write_nodes-requires-clause-readable c = readable c.requires.fact.settled

pub returns : goal.returns
returns c = λ g ps t h. delivered h c.write_nodes.ensures c.write_roots.ensures c.write_ids.ensures
