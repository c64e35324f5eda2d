use Rattle.std.proofs.Common.{◌≡◌, ◌≤◌, length}
use Rattle.cases.proofs.text.read_words.Given as goal

abbrev pub invariant-loop-place : goal.invariant-loop-place
invariant-loop-place l =
    (l.place-index-end ≡ length l.out) ×
    (l.place-index ≤ l.place-index-end) ×
    (l.n ≤ l.place-index)
