use Rattle.std.specs.Prelude.{map}
use Rattle.record.proofs.Readings.{Reading}
use Rattle.record.proofs.words_at.Given as goal

abbrev pub invariant-loop-i : goal.invariant-loop-i
invariant-loop-i g l = Reading g.T.Word.WIDTH g.row.N l.s l.at (map g.T.Word.value l.x-items) l.i
