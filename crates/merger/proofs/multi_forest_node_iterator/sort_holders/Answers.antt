use Rattle.merger.proofs.Holders.{sortable, shelved}
use Rattle.merger.proofs.multi_forest_node_iterator.sort_holders.Goals as goal

pub sort_by_digest-requires : goal.sort_by_digest-requires
sort_by_digest-requires c = let k = c.list_holders-count in sortable c.requires.ample k.auto.list k.ensures _ c.requires.spare_len

pub returns : goal.returns
returns c =
    let k = c.list_holders-count in
    let t = c.sort_by_digest in
    shelved c.requires.ample k.auto.list k.ensures _ c.requires.spare_len t.ensures.sorted t.ensures.spared_zero t.auto.list
