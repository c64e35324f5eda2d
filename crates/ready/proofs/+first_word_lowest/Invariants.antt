use Prim.Native.Nat.{◌+◌, ◌*◌}
use Rattle.ready.proofs.+first_word_lowest.Given as goal

abbrev pub decreases-first_word : goal.decreases-first_word
decreases-first_word l = 2 * l.n

abbrev pub decreases-lowest : goal.decreases-lowest
decreases-lowest l = 2 * l.n + 1
