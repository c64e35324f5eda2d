-- Laws of the lowest id of a set: it stands in the first word of the row that is not 0, as its lowest set bit.
-- Assumes nothing.
use Prim.Native.Nat.{ℕ, zero, suc, ◌+◌, ◌*◌, ◌/◌, ◌%◌, ◌^◌, ◌≤◌, ◌<◌}
use mathlib.Core.Path.{◌≡◌, refl, ap, ◌∙◌}
use mathlib.Core.Bool.{true, false, not}
use mathlib.Core.List.{List}
use Rattle.std.specs.Prelude.{Some, None}
use native.Mathlib.Decide.{dec_lt}
use native.Mathlib.Omega.{arith}
use borrow.Author.Tests.{eq-eqb, ne_eqb}
use lib.Count.{count_trailing_zeros}
use lib.Dec.{eqb}
use lib.ListN.{get_or}
use Rattle.record.specs.Lists.{run}
use Rattle.record.proofs.Basics.{clash}
use Rattle.forest.specs.Lists.{lowest}
use Rattle.claims.specs.Searches.{none_lowest, lowest_none, lowest_ids, lowest_before, lowest_at, lowest_agree}
use Rattle.claims.specs.Sorts.{in_run, run_in}
use Rattle.ready.specs.Tree.{width, words, word, bit, member, Tree}
use Rattle.ready.proofs.Bits.{bit_zero, Lowest, lowest_bit}
use Rattle.ready.proofs.Edits.{row_words, lent, behind}
use Rattle.ready.proofs.Trees.{tells, row_of, above_count, above_tells, above_tree}

-- a word that does or does not pass the test
is_zero : (x : ℕ) → not (eqb x 0) ≡ false → x ≡ 0
is_zero zero e = refl
is_zero (suc x) e = let z = rw (ne_eqb (suc x) 0 (omega arith)) at e in absurd (clash cc)

-- the first word of a row of one word
module _ (w : List ℕ) (n : ℕ) (h : 1 ≤ n) (l : n ≤ width) where
  one_word : words n ≡ 1
  one_word = omega arith

  pub first_none : get_or w 0 0 ≡ 0 → lowest (λ k. not (eqb (word w k) 0)) (run 0 (words n)) ≡ None
  first_none e = rw one_word (none_lowest _ _ (λ k m. let b = (run_in 0 1 k m).1 in let z : k ≡ 0 = omega arith in rw z (tells e)))

  pub first_some_lem : (get_or w 0 0 ≡ 0 → ⊥) → lowest (λ k. not (eqb (word w k) 0)) (run 0 (words n)) ≡ Some 0
  first_some_lem d = rw one_word (lowest_at _ 0 1 0 (λ x b. absurd (omega arith)) (ap not (ne_eqb (word w 0) 0 d)) (omega arith))

module _ {w : List ℕ} {n : ℕ} (t : Tree w n) where
  -- the set above tells which words are not 0
  pub first_above : width < n → lowest (member (lent w n) (row_words n)) (run 0 (row_words n)) ≡ lowest (λ k. not (eqb (word w k) 0)) (run 0 (words n))
  first_above l = rw (behind (row_words n) w, above_count n l) (lowest_agree _ _ 0 (words n) (λ k a b. above_tells l t k (omega arith)))

  pub asks_first : width < n → (row_words n < n) × ((1 ≤ row_words n) × Tree (lent w n) (row_words n))
  asks_first l = (omega arith, (omega arith, rw (behind (row_words n) w, above_count n l) (above_tree l t)))

  -- no id stands in a word that is 0
  idle : (i : ℕ) → word w (i / width) ≡ 0 → member w n i ≡ false
  idle i e = ap (λ (y : ℕ). not (eqb (bit y (i % width)) 0)) e ∙ tells (bit_zero (i % width))

  -- every word of the row is 0
  pub id_none : lowest (λ k. not (eqb (word w k) 0)) (run 0 (words n)) ≡ None → lowest (member w n) (run 0 n) ≡ None
  id_none e =
      none_lowest _ _
      (λ i m. let b = (run_in 0 n i m).1 in idle i (is_zero _ (lowest_none (λ (k : ℕ). not (eqb (word w k) 0)) _ e (i / width) (in_run 0 (words n) (i / width) (omega arith) (omega arith)))))

  -- word k is the first that is not 0
  module _ {k : ℕ} (e : lowest (λ k. not (eqb (word w k) 0)) (run 0 (words n)) ≡ Some k) (small : word w k < 2 ^ width) where
    pub in_row : k < words n
    in_row = (lowest_ids _ (words n) k e).1

    lowest_set : Lowest (word w k) width
    lowest_set = lowest_bit width (word w k) (λ z. let y = (lowest_ids _ (words n) k e).0 in let x = rw (eq-eqb _ 0 z) at y in absurd (clash cc)) small

    pub id_below : width * k + count_trailing_zeros width (word w k) < n
    id_below =
        let b = lowest_set.below in
        elim (dec_lt (width * k + count_trailing_zeros width (word w k)) n) [
          | yes q ↦ q
          | no q ↦ let z = (row_of t).clear k _ in_row b (omega arith) in let y = lowest_set.found in absurd (omega arith)
        ]

    pub id_some : lowest (member w n) (run 0 n) ≡ Some (width * k + count_trailing_zeros width (word w k))
    id_some = lowest_at (member w n) 0 n _ before found id_below
      where
        b : count_trailing_zeros width (word w k) < width
        b = lowest_set.below

        before : (x : ℕ) → x < 0 + (width * k + count_trailing_zeros width (word w k)) → member w n x ≡ false
        before x h =
            elim (dec_lt (x / width) k) [
              | yes q ↦ idle x (is_zero _ (lowest_before (λ (k : ℕ). not (eqb (word w k) 0)) 0 (words n) k e (x / width) (omega arith) (omega arith)))
              | no q ↦ let z : x / width ≡ k = omega (arith, b) in rw z (tells (lowest_set.before (x % width) (omega (arith, b))))
            ]

        found : member w n (0 + (width * k + count_trailing_zeros width (word w k))) ≡ true
        found =
            let z : (0 + (width * k + count_trailing_zeros width (word w k))) / width ≡ k = omega (arith, b) in
            let y : (0 + (width * k + count_trailing_zeros width (word w k))) % width ≡ count_trailing_zeros width (word w k) = omega (arith, b) in
            rw (z, y) (tells lowest_set.found)
