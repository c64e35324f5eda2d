-- Laws of a loop that reads numbers of any width into an array of any length. Assumes nothing.
use Prim.Native.Nat.{ℕ, suc, ◌+◌, ◌*◌, ◌-◌, ◌<◌, ◌≤◌}
use mathlib.Core.Path.{◌≡◌}
use mathlib.Core.List.{List, ◌++◌, append-nil}
use native.Mathlib.Omega.{arith}
use native.Mathlib.Nat.{mul-suc}
use native.Mathlib.Numerals.{add-one}
use lib.ListN.{length, take, set, length-set}
use lib.Seq.{take-suc-set, append_snoc, take_all}
use Rattle.record.specs.Number.{number, numbers}

-- the n numbers of k bytes from place at on are the first i of d, and those that are still to be read
pub record Reading (k n : ℕ) (s : List ℕ) (at : ℕ) (d : List ℕ) (i : ℕ) : Type 0 where
  pub within : i ≤ n
  pub room : length d ≡ n
  pub read : numbers k n s at ≡ take i d ++ numbers k (n - i) s (at + k * i)

module _ (k n : ℕ) (s : List ℕ) (at : ℕ) (d : List ℕ) where
  module _ (i : ℕ) (r : Reading k n s at d i) where
    pub reading_step : (x p : ℕ) → i < n → p ≡ at + k * i → x ≡ number k s p → Reading k n s at (set d i x) (i + 1)
    unfolding numbers
    reading_step x j h f q =
        let e : n - i ≡ suc (n - (i + 1)) = omega arith in
        let p : at + k * (i + 1) ≡ at + k * i + k = rw (add-one, mul-suc) (omega arith) in
        record {
          within = omega arith;
          room = simp length-set r.room;
          read = rw (r.read, e, p, q, f, add-one, take-suc-set d i (number k s (at + k * i)) (omega arith), append_snoc);
        }

    pub reading_end : n ≤ i → d ≡ numbers k n s at
    unfolding numbers
    reading_end h =
        let e : n - i ≡ 0 = omega arith in
        rw (r.read, e, take_all i d (omega arith), append-nil)
