-- Laws of a loop that lists those elements of a list that pass a test.
-- Assumes nothing.
use Prim.Native.Nat.{ℕ, ◌+◌, ◌<◌, ◌≤◌}
use mathlib.Core.Path.{◌≡◌, refl, sym, ◌∙◌, ap}
use mathlib.Core.Bool.{Bool, true, false}
use mathlib.Core.List.{List, ◌++◌, append-nil, append_assoc}
use native.Mathlib.Omega.{arith}
use native.Mathlib.Numerals.{add-one}
use lib.ListN.{length, drop, get_or, set, length-set, drop_of_length-le}
use lib.Seq.{get_or-set_other, drop-cons}
use Rattle.record.specs.Lists.{run}
use Rattle.record.proofs.Lengths.{length_run}
use Rattle.forest.specs.Lists.{keep}
use Rattle.room.specs.Sections.{span, Out, Puts}
use Rattle.room.proofs.Spans.{span_length, span_empty, span_set}
use Rattle.sorting.proofs.Uses.{run_at}

-- those of the first p elements of l are listed from place `to` on, `count` of them
pub record Keeping (t : ℕ → Bool) (l w₀ w : List ℕ) (to count p : ℕ) : Type 0 where
  pub within : p ≤ length l
  pub some : count ≤ p
  pub long : length w ≡ length w₀
  pub rest : (y : ℕ) → Out y to count → get_or w y 0 ≡ get_or w₀ y 0
  pub so_far : keep t l ≡ span w to (to + count) ++ keep t (drop p l)

pub keeping_start : (t : ℕ → Bool) (l w : List ℕ) (to : ℕ) → Keeping t l w w to 0 0
keeping_start t l w to = record { within = omega arith; some = omega arith; long = refl; rest = λ y h. refl; so_far = rw (span_empty w to (to + 0) (omega arith)) refl }

module _ {t : ℕ → Bool} {l w₀ w : List ℕ} {to count p : ℕ} (m : Keeping t l w₀ w to count p) where
  module _ (h : p < length l) where
    pub keeping_past : t (get_or l p 0) ≡ false → Keeping t l w₀ w to count (p + 1)
    unfolding keep
    keeping_past e = record { within = omega arith; some = let z = m.some in omega arith; long = m.long; rest = m.rest; so_far = m.so_far ∙ rw (drop-cons l p 0 h, add-one) (rw (e, keep)) }

    pub keeping_on : to + length l ≤ length w₀ → t (get_or l p 0) ≡ true → (v : ℕ) → v ≡ get_or l p 0 → Keeping t l w₀ (set w (to + count) v) to (count + 1) (p + 1)
    unfolding keep
    keeping_on fits e v is =
        let z : to + (count + 1) ≡ to + count + 1 = omega arith in
        record {
          within = omega arith;
          some = let y = m.some in omega arith;
          long = length-set w (to + count) v ∙ m.long;
          rest = λ y g. get_or-set_other w (to + count) y v 0 (λ q. omega (arith, g (omega arith))) ∙ m.rest y (λ q. omega (arith, g q));
          so_far = m.so_far ∙ rw (drop-cons l p 0 h, z, span_set w to (to + count) v (omega arith) (omega (arith, m.long, m.some, fits)), append_assoc, is, add-one) (rw (e, keep));
        }

  module _ (fits : to + length l ≤ length w₀) (all : length l ≤ p) where
    kept_is : keep t l ≡ span w to (to + count)
    unfolding keep
    kept_is = m.so_far ∙ rw (drop_of_length-le l {i = p} all) (append-nil (span w to (to + count)))

    pub keeping_count : count ≡ length (keep t l)
    keeping_count = let k = span_length w to (to + count) (omega (arith, fits, m.some, m.within, m.long)) in sym (ap length kept_is ∙ omega (arith, k))

    pub keeping_end : Puts (keep t l) w₀ w to count
    keeping_end = record { put = sym kept_is; rest = m.rest }

-- of the first n numbers
module _ {t : ℕ → Bool} {w₀ w : List ℕ} {n to count p : ℕ} (m : Keeping t (run 0 n) w₀ w to count p) (h : p < n) where
  there : p < length (run 0 n)
  there = rw (length_run 0 n) h

  number_is : get_or (run 0 n) p 0 ≡ p
  number_is = omega (arith, run_at 0 n p h)

  pub numbers_past : t p ≡ false → Keeping t (run 0 n) w₀ w to count (p + 1)
  numbers_past e = keeping_past m there (ap t number_is ∙ e)

  pub numbers_on : to + n ≤ length w₀ → t p ≡ true → Keeping t (run 0 n) w₀ (set w (to + count) p) to (count + 1) (p + 1)
  numbers_on fits e = keeping_on m there (rw (length_run 0 n) fits) (ap t number_is ∙ e) p (sym number_is)
