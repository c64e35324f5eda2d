-- Laws of little-endian numbers in a list of bytes. Assumes nothing.
use Prim.Native.Nat.{ℕ, zero, suc, ◌+◌, ◌*◌, ◌^◌, ◌/◌, ◌%◌, ◌<◌, ◌≤◌}
use mathlib.Core.Path.{◌≡◌, refl, ap, sym, ◌∙◌}
use mathlib.Core.List.{List, ◌∷◌}
use native.Mathlib.Omega.{arith}
use native.Mathlib.Nat.{pow-suc, div-div-eq-div-mul}
use native.Mathlib.Numerals.{add-one}
use lib.ListN.{length, get_or}
use lib.Seq.{drop-cons}
use Rattle.std.specs.Int.{byte_at, bytes_low_first}
use Rattle.record.specs.Number.{le, number, bytes}

-- one byte more: the lowest byte, and what follows it
pub number_next : (k : ℕ) (s : List ℕ) (at next : ℕ) → at < length s → next ≡ at + 1 → number (suc k) s at ≡ get_or s at 0 + 256 * number k s next
unfolding number le
number_next k s at next h e = rw (e, add-one, drop-cons s at 0)

pub number_none : (s : List ℕ) (at : ℕ) → number 0 s at ≡ 0
unfolding number le
number_none s at = refl

module _ (s : List ℕ) (at k : ℕ) (h : at + 4 ≤ length s) where
  -- four bytes more
  pub number_four : number (suc (suc (suc (suc k)))) s at ≡ get_or s at 0 + 256 * get_or s (at + 1) 0 + 65536 * get_or s (at + 2) 0 + 16777216 * get_or s (at + 3) 0 + 4294967296 * number k s (at + 4)
  number_four =
      omega (
        arith,
        number_next (suc (suc (suc k))) s at (at + 1) (omega arith) refl,
        number_next (suc (suc k)) s (at + 1) (at + 2) (omega arith) (omega arith),
        number_next (suc k) s (at + 2) (at + 3) (omega arith) (omega arith),
        number_next k s (at + 3) (at + 4) (omega arith) (omega arith),
      )

-- the bytes that the library makes of a number, from the i-th on
low_first : (i k x : ℕ) → bytes_low_first i k x ≡ bytes k (x / 256 ^ i)
unfolding bytes
low_first i zero x = refl
low_first i (suc k) x = rw (lowest i, low_first (suc i) k x, pow-suc) (ap (λ (y : ℕ). x / 256 ^ i % 256 ∷ bytes k y) (sym (div-div-eq-div-mul x (256 ^ i) 256)))
  where
    lowest : (i : ℕ) → byte_at i x ≡ x / 256 ^ i % 256
    lowest zero = omega arith
    lowest (suc i) = refl

pub library_bytes : (k x : ℕ) → bytes_low_first 0 k x ≡ bytes k x
library_bytes k x = let e : x / 1 ≡ x = omega arith in low_first 0 k x ∙ ap (bytes k) e
