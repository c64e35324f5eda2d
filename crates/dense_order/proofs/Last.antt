-- Laws of a loop that seeks the last child at or above a number, from the last child field down.
-- Assumes nothing.
use Prim.Native.Nat.{ℕ, ◌+◌, ◌<◌, ◌≤◌}
use mathlib.Core.Path.{◌≡◌}
use mathlib.Core.Bool.{Bool, true, false, ◌&&◌}
use mathlib.Core.List.{List, [], ◌∷◌, ◌++◌}
use Rattle.std.specs.Prelude.{Some, None}
use native.Mathlib.Omega.{arith}
use native.Mathlib.Numerals.{add-one}
use native.Mathlib.Decide.{dec_lt}
use lib.Dec.{leb, ltb}
use borrow.Author.Tests.{lt-ltb, ltb-true}
use lib.ListN.{length, take, get_or, length-take}
use lib.Seq.{take_all, take-suc, get_or-take}
use Rattle.record.specs.Node.{children}
use Rattle.record.specs.declared.Node.{Node}
use Rattle.record.proofs.Basics.{both_true}
use Rattle.forest.specs.Lists.{later, last_of}

-- what is found in a list and one element more
module _ (t : ℕ → Bool) where
  pub last_here : (l : List ℕ) (x : ℕ) → t x ≡ true → last_of t (l ++ x ∷ []) ≡ Some x
  unfolding last_of later
  last_here [] x e = rw e
  last_here (y ∷ l) x e = rw (last_here l x e)

  pub last_before : (l : List ℕ) (x : ℕ) → t x ≡ false → last_of t (l ++ x ∷ []) ≡ last_of t l
  unfolding last_of later
  last_before [] x e = rw e
  last_before (y ∷ l) x e = rw (last_before l x e)

-- the last child at or above low is among the first `left` children
abbrev pub Among : Node → ℕ → ℕ → Type 0
Among n low left = last_of (leb low) (children n) ≡ last_of (leb low) (take left (children n))

module _ (n : Node) (low : ℕ) where
  pub among_start : (left : ℕ) → length n.kids ≤ left → Among n low left
  unfolding children
  among_start left h = rw (take_all left (take n.count n.kids) (omega (arith, length-take n.count n.kids)))

  -- i is the last place of those that are left
  module _ (left i : ℕ) (k : Among n low left) (l : left ≡ i + 1) (h : left ≤ length n.kids) where
    more : i < n.count → take (i + 1) (children n) ≡ take i (children n) ++ get_or n.kids i 0 ∷ []
    unfolding children
    more g =
        rw (add-one, take-suc (take n.count n.kids) i 0 (omega (arith, length-take n.count n.kids)), get_or-take n.count n.kids i 0 g)

    pub among_found : (ltb i n.count && leb low (get_or n.kids i 0)) ≡ true → Some (get_or n.kids i 0) ≡ (last_of (leb low) (children n))
    among_found e =
        let (a, b) = both_true (ltb i n.count) (leb low (get_or n.kids i 0)) e in
        rw (k, l, more (ltb-true _ _ a), last_here (leb low) (take i (children n)) (get_or n.kids i 0) b)

    pub among_step : (ltb i n.count && leb low (get_or n.kids i 0)) ≡ false → Among n low i
    unfolding children
    among_step e = elim (dec_lt i n.count) [ yes g ↦ inside g | no g ↦ past (omega arith) ]
      where
        inside : i < n.count → Among n low i
        inside g =
            let b : leb low (get_or n.kids i 0) ≡ false = rw (lt-ltb i n.count g) at e in
            rw (k, l, more g) (last_before (leb low) (take i (children n)) (get_or n.kids i 0) b)

        past : n.count ≤ i → Among n low i
        past g = rw (take_all i (take n.count n.kids) (omega (arith, length-take n.count n.kids)))

  pub among_end : (left : ℕ) → Among n low left → left ≤ 0 → None ≡ (last_of (leb low) (children n))
  unfolding last_of
  among_end left k h = let e : left ≡ 0 = omega arith in rw (k, e)
