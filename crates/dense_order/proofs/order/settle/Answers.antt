use Prim.Native.Nat.{◌/◌}
use lib.ListN.{length}
use native.Mathlib.Omega.{arith}
use Rattle.record.specs.Node.{size}
use Rattle.dense_order.proofs.Settling.{Next, next_is, settling_start, settling_step, settling_less, parent_few, count_some, settles}
use Rattle.dense_order.proofs.order.settle.Goals as goal
use Rattle.dense_order.proofs.order.settle.Goals.{Start}

next_of : (s : Start) → Next s.args.order.now s.args.mentions.heads.now (length s.args.nodes.now / size) s.args.t
next_of s = next_is s.requires.standing s.requires.t_lt_filled

pub loop-at-init : goal.loop-at-init
loop-at-init c =
    let x = next_of (goal.at.loop-at-init c).Start in
    settling_start _ c.requires.standing.stands x.id_below x.unsettled

pub resolve-requires : goal.resolve-requires
resolve-requires c =
    let l = c.loop-at in
    let x = next_of (goal.at.resolve-requires c).Start in
    let k = c.loop-at-test.true in
    let n = l.invariant.counts.long in
    record {
      p_lt_n = omega (arith, parent_few _ c.requires.standing.stands x.id_below x.unsettled l.invariant k);
      nonzero = count_some _ c.requires.standing.stands x.id_below x.unsettled l.invariant k;
      tree = rw n l.invariant.counts.tree;
    }

pub loop-at-smaller : goal.loop-at-smaller
loop-at-smaller c =
    let x = next_of (goal.at.loop-at-smaller c).Start in
    settling_less _ c.requires.standing.stands x.id_below x.unsettled c.loop-at.invariant c.loop-at-test.true

pub loop-at-preserved : goal.loop-at-preserved
loop-at-preserved c =
    let x = next_of (goal.at.loop-at-preserved c).Start in
    settling_step _ c.requires.standing.stands x.id_below x.unsettled c.loop-at.invariant c.loop-at-test.true c.resolve.auto.counts c.resolve.ensures

pub returns : goal.returns
returns c = settles c.requires.standing c.requires.t_lt_filled c.loop-at.invariant c.loop-at-test.false
