use mathlib.Core.Path.{◌∙◌}
use native.Mathlib.Omega.{arith}
use Rattle.dense_order.proofs.Finishing.{Cut, cut_is, nothing_enlisted, begun_is, none_settled, completes, complete_is}
use Rattle.dense_order.proofs.order.complete.Goals as goal
use Rattle.dense_order.proofs.order.complete.Goals.{After-split_at_mut-rows}

-- the sections that the code cuts
cut_of : (c : After-split_at_mut-rows)
    → Cut c.args.work.now c.split_at_mut-order.result.0.now c.split_at_mut-marks.result.0.now c.split_at_mut-heads.result.0.now c.split_at_mut-counts.result.0.now c.split_at_mut-rows.result.0.now c.split_at_mut-rows.result.1.now c.args.n
cut_of c =
    let o = c.split_at_mut-order.ensures in
    let m = c.split_at_mut-marks.ensures in
    let h = c.split_at_mut-heads.ensures in
    let k = c.split_at_mut-counts.ensures in
    let r = c.split_at_mut-rows.ensures in
    cut_is o.value o.front_len m.value m.front_len h.value h.front_len k.value k.front_len r.value r.front_len

pub enlist_all-requires : goal.enlist_all-requires
enlist_all-requires c = nothing_enlisted c.requires (cut_of (goal.at.enlist_all-requires c).After-split_at_mut-rows)

pub settle_and_release-requires : goal.settle_and_release-requires
settle_and_release-requires c =
    let k = cut_of (goal.at.settle_and_release-requires c).After-split_at_mut-rows in
    record {
      standing = none_settled c.requires k c.enlist_all.ensures;
      begun = (let z = c.requires.some in let l = k.order_long in omega arith, begun_is c.requires k);
      order_long = k.order_long ∙ c.requires.fair.counted;
    }

pub returns : goal.returns
returns c =
    let k = cut_of (goal.at.returns c).After-split_at_mut-rows in
    record { unmarked = completes c.requires k c.settle_and_release.auto.order c.settle_and_release.ensures; whole = complete_is c.requires k c.settle_and_release.auto.order c.settle_and_release.ensures }
