-- What earlier reads took, and then what this one took, is the start of the buffer.
use Rattle.std.proofs.Common.{◌≡◌, ℕ, ◌+◌, ◌≤◌, List, ◌++◌, rules, arith, length, take, sym, subst, length-take-le}
use Rattle.std.proofs.lemmas.List.{take-append-le}
use Rattle.std.proofs.Math.Seq.{take-append-add}
use Rattle.std.specs.Io.KnownBytes.{Consumes}
use Rattle.std.proofs.KnownBytes.{Consumes-trans}
use borrow.Rule.Slice.PartMut.{put_mid}
use Rattle.reading.proofs.read_full.Goals as goal

-- of a list whose part from a on became ys: its first a, and then the first n of ys
take-put_mid_part : (a k n : ℕ) (xs ys : List ℕ) → a ≤ length xs → n ≤ length ys → take (a + n) (put_mid a k xs ys) ≡ take a xs ++ take n ys
take-put_mid_part a k n xs ys within fits = grind (arith, take-append-add, take-append-le, length-take-le)

pub loop-done-preserved : goal.loop-done-preserved
loop-done-preserved g c =
    let taken = take-put_mid_part c.loop-done.done _ c.in_ok-n.n c.loop-done.buffer c.read.new.buf c.loop-done.invariant.0 c.in_ok-n.ensures.bound.0 in
    (search rules, subst (Consumes _ _) (sym taken) (Consumes-trans _ _ _ _ _ c.loop-done.invariant.1 c.in_ok-n.ensures.bytes.0))
