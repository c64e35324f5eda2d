use mathlib.Core.Path.{refl, ◌∙◌}
use native.Mathlib.Omega.{arith}
use Rattle.merger.proofs.Charting.{summed, roomy, ample, spare_long, begun, ends}
use Rattle.merger.proofs.Parts.{Parts, cut, parts_long}
use Rattle.merger.proofs.walked.Goals as goal
use Rattle.merger.proofs.walked.Goals.{After-split_at_mut-holders}

-- the room is cut into five parts
parts : (c : After-split_at_mut-holders) → Parts c.clear.new.work c.split_at_mut-states.result.0.now c.split_at_mut-sources.result.0.now c.split_at_mut-bases.result.0.now c.split_at_mut-holders.result.0.now c.split_at_mut-holders.result.1.now c.args.n
parts c =
    let p = c.split_at_mut-states.ensures in
    let q = c.split_at_mut-sources.ensures in
    let s = c.split_at_mut-bases.ensures in
    let t = c.split_at_mut-holders.ensures in
    cut p.value q.value s.value t.value p.front_len q.front_len s.front_len t.front_len

pub split_at_mut-states-requires : goal.split_at_mut-states-requires
split_at_mut-states-requires c = let r = (roomy c.requires.past c.requires.n_value c.clear.auto.work).room in omega arith

pub split_at_mut-sources-requires : goal.split_at_mut-sources-requires
split_at_mut-sources-requires c = let r = (roomy c.requires.past c.requires.n_value c.clear.auto.work).room in omega (arith, c.split_at_mut-states.ensures.back_len)

pub split_at_mut-bases-requires : goal.split_at_mut-bases-requires
split_at_mut-bases-requires c =
    let r = (roomy c.requires.past c.requires.n_value c.clear.auto.work).room in
    omega (arith, c.split_at_mut-states.ensures.back_len, c.split_at_mut-sources.ensures.back_len)

pub split_at_mut-holders-requires : goal.split_at_mut-holders-requires
split_at_mut-holders-requires c =
    let r = (roomy c.requires.past c.requires.n_value c.clear.auto.work).room in
    omega (arith, c.split_at_mut-states.ensures.back_len, c.split_at_mut-sources.ensures.back_len, c.split_at_mut-bases.ensures.back_len)

pub write_bases-requires : goal.write_bases-requires
write_bases-requires c =
    let e = summed c.requires.past c.requires.n_value in
    let r = (roomy c.requires.past c.requires.n_value c.clear.auto.work).few in
    (c.split_at_mut-bases.ensures.front_len ∙ e, omega arith)

pub sort_holders-count-requires-clause-ample : goal.sort_holders-count-requires-clause-ample
sort_holders-count-requires-clause-ample c =
    let a = parts (goal.at.sort_holders-count-requires-clause-ample c).After-split_at_mut-holders in
    let s = c.split_at_mut-bases.ensures in
    ample c.requires.past c.requires.n_value c.clear.ensures a c.clear.auto.work c.write_bases.ensures (c.write_bases.auto.bases ∙ s.front_len)

pub sort_holders-count-requires-clause-spare_len : goal.sort_holders-count-requires-clause-spare_len
sort_holders-count-requires-clause-spare_len c =
    let a = parts (goal.at.sort_holders-count-requires-clause-spare_len c).After-split_at_mut-holders in
    let s = c.split_at_mut-bases.ensures in
    spare_long c.requires.past c.requires.n_value c.clear.ensures a c.clear.auto.work c.write_bases.ensures (c.write_bases.auto.bases ∙ s.front_len)

pub walk_roots-requires : goal.walk_roots-requires
walk_roots-requires c =
    let a = parts (goal.at.walk_roots-requires c).After-split_at_mut-holders in
    let s = c.split_at_mut-bases.ensures in
    begun c.requires.past c.requires.n_value c.clear.ensures a c.clear.auto.work c.write_bases.ensures (c.write_bases.auto.bases ∙ s.front_len) c.sort_holders-count.ensures

pub returns : goal.returns
returns c =
    let p = c.split_at_mut-states.ensures in
    let q = c.split_at_mut-sources.ensures in
    let s = c.split_at_mut-bases.ensures in
    let t = c.split_at_mut-holders.ensures in
    let a = parts (goal.at.returns c).After-split_at_mut-holders in
    let l = c.clear.auto.work in
    let e = c.write_bases.auto.bases ∙ s.front_len in
    let k = c.sort_holders-count in
    let v = c.walk_roots in
    let b = cut refl refl refl refl (v.auto.states ∙ p.front_len) (v.auto.sources ∙ q.front_len) e (k.auto.list ∙ t.front_len) in
    let z = k.auto.spare in
    ends c.requires.past c.requires.n_value c.clear.ensures a l c.write_bases.ensures e c.sort_holders-count.ensures b (omega (arith, parts_long a, parts_long b, l)) v.ensures
