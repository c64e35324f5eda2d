use Rattle.merger.specs.Table.{ToNode}
use Rattle.merger.proofs.BaseWrites.{Based}
use Rattle.merger.proofs.table.Table.write_bases.Given as goal

abbrev pub invariant-loop-p : goal.invariant-loop-p
invariant-loop-p l = ToNode l.self l.at l.p × Based l.self l.initial.bases l.bases l.p
