use Rattle.merger.proofs.Cursors.{toward_start, toward_next, base_low}
use Rattle.merger.proofs.RootRanges.{inside_start, inside_found, inside_step, inside_end}
use native.Mathlib.Omega.{arith}
use Rattle.merger.proofs.table.Table.far_root.Goals as goal

pub loop-k-init : goal.loop-k-init
loop-k-init c =
    let t = c.args.self.now in
    (rw c.start-at.ensures (toward_start t), inside_start t c.args.roots.now)

pub at_root-at-requires : goal.at_root-at-requires
at_root-at-requires c = record { to_root = c.loop-k.invariant.0; k_bound = omega (arith, c.requires.roots_len) }

pub overflow_sub-at : goal.overflow_sub-at
overflow_sub-at c = omega (arith, base_low c.args.self.now _ c.at_root-at.ensures.toward.on)

pub overflow_cast-root : goal.overflow_cast-root
overflow_cast-root c = omega (arith, c.type_inv.roots c.loop-k.k)

pub returns-then-at-root : goal.returns-then-at-root
returns-then-at-root c =
    let l = c.loop-k in
    inside_found c.args.self.now c.args.roots.now c.requires.roots_len l.k l.invariant.1 _ c.at_root-at.ensures c.loop-k-test.true (omega arith)

pub loop-k-preserved : goal.loop-k-preserved
loop-k-preserved c =
    let l = c.loop-k in
    let a = c.at_root-at.ensures in
    (toward_next c.args.self.now _ l.k a, inside_step c.args.self.now c.args.roots.now c.requires.roots_len l.k l.invariant.1 _ a c.loop-k-test.true (omega arith))

pub returns : goal.returns
returns c =
    let l = c.loop-k in
    inside_end c.args.self.now c.args.roots.now c.requires.roots_len l.k l.invariant.1 c.loop-k-test.false
