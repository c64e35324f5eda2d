use mathlib.Core.Path.{refl}
use native.Mathlib.Omega.{arith}
use Rattle.merger.specs.Table.{Legible}
use Rattle.merger.proofs.Rows.{on_nodes_fit, on_roots_fit, on_next}
use Rattle.merger.proofs.table.Table.advance.Goals as goal

pub overflow_add-result-2 : goal.overflow_add-result-2
overflow_add-result-2 c =
    let v : Legible c.args.self.now = rw c.self.view_is at c.self.invariant in
    omega (arith, v.few, on_nodes_fit c.args.self.now c.args.at c.requires.on v.octets)

pub overflow_add-result-3 : goal.overflow_add-result-3
overflow_add-result-3 c =
    let v : Legible c.args.self.now = rw c.self.view_is at c.self.invariant in
    omega (arith, v.few, on_roots_fit c.args.self.now c.args.at c.requires.on v.octets)

pub returns : goal.returns
returns c = (refl, on_next c.args.self.now c.args.at c.requires.on c.requires.rows_in_bounds _ (rw c.self.view_is at c.row_at-row.ensures))
