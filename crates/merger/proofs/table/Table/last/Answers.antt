use mathlib.Core.Path.{ap}
use native.Mathlib.Omega.{arith}
use lib.ListN.{length}
use Rattle.merger.proofs.Rows.{on_start, on_last}
use Rattle.merger.specs.declared.table.Cursor.{Cursor}
use Rattle.merger.proofs.table.Table.last.Goals as goal

pub loop-init : goal.loop-init
loop-init c = (ap (λ (a : Cursor). a.rows) c.start-at.ensures, rw c.start-at.ensures (on_start c.args.self.now))

pub advance-at-requires : goal.advance-at-requires
advance-at-requires c = record { on = c.loop.invariant.1; rows_in_bounds = omega (arith, c.loop.invariant.0, ap length c.self.view_is) }

pub loop-preserved : goal.loop-preserved
loop-preserved c = (omega (arith, c.loop.invariant.0, c.advance-at.ensures.0), c.advance-at.ensures.1)

pub returns : goal.returns
returns c =
    let l = c.loop in
    on_last c.args.self.now l.at l.invariant.1 (omega (arith, l.invariant.0, c.loop-test.false, ap length c.self.view_is))
