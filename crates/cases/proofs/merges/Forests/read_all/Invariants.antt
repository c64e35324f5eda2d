use Rattle.std.proofs.Common.{length}
use Rattle.cases.proofs.merges.Forests.read_all.Given as goal

abbrev pub decreases-loop-text : goal.decreases-loop-text
decreases-loop-text l = length l.text
