use native.Mathlib.Omega.{arith}
use Rattle.dense_order.proofs.Delivering.{marks_long, id_marked, root_placed, writable, delivered}
use Rattle.dense_order.proofs.deliver.deliver.Goals as goal

pub write_nodes-requires : goal.write_nodes-requires
write_nodes-requires c = writable c.requires.deliverable c.requires.node_out_len.0

pub write_roots-requires : goal.write_roots-requires
write_roots-requires c = record { out_len = c.requires.node_out_len.1.0; by_index = root_placed c.requires.deliverable }

pub write_ids-requires : goal.write_ids-requires
write_ids-requires c = record { ids_len = omega (arith, c.requires.node_out_len.1.1, marks_long c.requires.deliverable); by_index = id_marked c.requires.deliverable }

pub returns : goal.returns
returns c = delivered c.requires.deliverable c.write_nodes.ensures c.write_roots.ensures c.write_ids.ensures
