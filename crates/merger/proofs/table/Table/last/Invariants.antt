use mathlib.Core.Path.{◌≡◌}
use Rattle.merger.specs.Table.{On}
use Rattle.merger.proofs.table.Table.last.Given as goal

abbrev pub invariant-loop : goal.invariant-loop
invariant-loop l = (l.at.rows ≡ l.counter) × On l.self l.at
