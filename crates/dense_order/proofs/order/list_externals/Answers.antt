use Rattle.dense_order.proofs.Finishing.{space_blank, spared_externals, sorted_externals, externals_listed}
use Rattle.dense_order.proofs.order.list_externals.Goals as goal

pub list_class-count-requires : goal.list_class-count-requires
list_class-count-requires c = space_blank c.requires

pub sort_by_digest-requires : goal.sort_by_digest-requires
sort_by_digest-requires c =
    let k = c.list_class-count in
    let e = c.split_at_mut-front.ensures in
    spared_externals _ _ c.requires k.auto.list k.ensures e.value e.front_len

pub returns : goal.returns
returns c =
    let k = c.list_class-count in
    let e = c.split_at_mut-front.ensures in
    let t = c.sort_by_digest in
    externals_listed c.requires k.ensures (sorted_externals _ _ c.requires k.auto.list k.ensures e.value e.front_len t.ensures.sorted t.ensures.spared_zero t.auto.list)
