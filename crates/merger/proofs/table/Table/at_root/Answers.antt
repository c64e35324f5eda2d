use native.Mathlib.Omega.{arith}
use Rattle.merger.proofs.Rows.{on_root_row}
use Rattle.merger.proofs.Cursors.{root_step}
use Rattle.merger.proofs.table.Table.at_root.Goals as goal

pub advance-at-requires : goal.advance-at-requires
advance-at-requires c =
    let l = c.loop-at in
    record { on = l.invariant.on; rows_in_bounds = on_root_row c.args.self.now l.at l.invariant.on c.args.k c.loop-at-test.true c.requires.k_bound }

pub loop-at-preserved : goal.loop-at-preserved
loop-at-preserved c =
    let l = c.loop-at in
    root_step c.args.self.now l.at _ l.invariant.on c.advance-at.ensures.0 c.advance-at.ensures.1 c.args.k c.loop-at-test.true

pub returns : goal.returns
returns c = record { toward = c.loop-at.invariant; high = omega arith }
