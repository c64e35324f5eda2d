-- Laws of the test whether a record is bad. Assumes nothing.
use Prim.Native.Nat.{ℕ, zero, suc, ◌+◌, ◌<◌, ◌≤◌, max}
use mathlib.Core.Path.{◌≡◌, refl, ap, sym}
use mathlib.Core.Bool.{Bool, true, not, ◌&&◌, ◌||◌, and-true, and_assoc}
use mathlib.Core.List.{List}
use native.Mathlib.Decide.{dec_lt}
use native.Mathlib.Omega.{arith}
use native.Mathlib.Numerals.{add-one}
use lib.Dec.{ltb, eqb}
use borrow.Author.Tests.{lt-ltb, le-ltb}
use lib.ListN.{length, drop, get_or, drop_of_length-le}
use lib.Seq.{drop-cons}
use Rattle.std.proofs.lemmas.Cmp.{nat_eq_equiv}
use Rattle.record.specs.Lists.{all}
use Rattle.record.specs.Node.{fields, last_kind, class_of, rank, class, is_internal, bad}
use Rattle.record.specs.declared.Node.{Node}

-- a test of all from place i on: the one that stands there, and those that follow it
pub all_step : (t : ℕ → Bool) (l : List ℕ) (i : ℕ) → i < length l → all t (drop i l) ≡ (t (get_or l i 0) && all t (drop (i + 1) l))
unfolding all
all_step t l i h = rw (add-one, drop-cons l i 0)

pub all_end : (t : ℕ → Bool) (l : List ℕ) (i : ℕ) → length l ≤ i → all t (drop i l) ≡ true
unfolding all
all_end t l i h = rw (drop_of_length-le l h)

-- a test of the elements from `from` on, by a look at every element: what lies before `from` passes
pub looked_on : (l : List ℕ) (from i : ℕ) (b : Bool) → i < length l → (b && all (eqb 0) (drop (max i from) l)) ≡ ((b && (ltb i from || eqb (get_or l i 0) 0)) && all (eqb 0) (drop (max (i + 1) from) l))
looked_on l from i b h =
    elim (dec_lt i from) [
      | yes q ↦
          let z : max i from ≡ max (i + 1) from = omega arith in
          rw (z, lt-ltb i from q) (ap (λ (x : Bool). x && all (eqb 0) (drop (max (i + 1) from) l)) (sym (and-true b)))
      | no q ↦
          let z : max i from ≡ i = omega arith in
          let y : max (i + 1) from ≡ i + 1 = omega arith in
          rw (z, y, le-ltb i from (omega arith), all_step (eqb 0) l i h, nat_eq_equiv.symm (get_or l i 0) 0) (sym (and_assoc b (eqb 0 (get_or l i 0)) (all (eqb 0) (drop (i + 1) l))))
    ]

pub looked_end : (l : List ℕ) (from i : ℕ) (b : Bool) → length l ≤ i → (b && all (eqb 0) (drop (max i from) l)) ≡ b
looked_end l from i b h = rw (all_end (eqb 0) l (max i from) (omega arith)) (and-true b)

-- external or block: a kind below 2
pub internal_kind : (n : Node) → not (is_internal n) ≡ ltb n.kind 2
unfolding is_internal class class_of rank
internal_kind n = by_kind n.kind
  where
    by_kind : (k : ℕ) → not (eqb (rank (class_of k)) 2) ≡ ltb k 2
    by_kind zero = refl
    by_kind (suc zero) = refl
    by_kind (suc (suc k)) = sym (le-ltb (suc (suc k)) 2 (omega arith))

-- the tests of the code, in its order, where u says whether the unused child fields are 0
pub bad_tests : (n : Node) (u : Bool) → u ≡ all (eqb 0) (drop n.count n.kids)
    → (ltb last_kind n.kind || ltb fields n.count || (ltb n.kind 2 && ltb 0 n.count) || not u) ≡ bad n
unfolding bad
bad_tests n u e = rw (e, internal_kind)
