use Rattle.std.specs.Prelude.{map}
use Rattle.record.proofs.Puts.{Putting}
use Rattle.record.proofs.put_words.Given as goal

abbrev pub invariant-loop-i : goal.invariant-loop-i
invariant-loop-i g l = Putting g.T.Word.WIDTH (map g.T.Word.value l.fn.d) l.initial.s l.at l.s l.i
