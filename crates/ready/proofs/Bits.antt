-- Laws of bits: those of a number with one bit set or cleared, and of the lowest set bit.
-- Assumes nothing.
use Prim.Native.Nat.{ℕ, zero, suc, ◌+◌, ◌-◌, ◌*◌, ◌/◌, ◌%◌, ◌^◌, ◌<◌, min, max}
use mathlib.Core.Path.{◌≡◌, refl, ap, sym, ◌∙◌}
use native.Mathlib.Decide.{dec_lt, ℕ_discrete}
use native.Mathlib.Nat.{mod-lt, div-eq_of_lt, div_self, pow-suc, zero-lt-suc}
use native.Mathlib.Numerals.{one-add}
use native.Mathlib.Omega.{arith}
use lib.Arith.{digits_mod}
use lib.Bits.{bit_and, bit_or, bit_xor, differ, and_step, or_step, xor_step, and_shr, or_shr, xor_shr}
use lib.Count.{count_trailing_zeros}
use lib.Pow.{pow-lt, pow-add, shl-shr, shr-shr}
use Rattle.ready.specs.Tree.{bit}

-- a bit is 0 or 1
pub bit_lt : (x j : ℕ) → bit x j < 2
bit_lt x j = mod-lt (x / 2 ^ j) (zero-lt-suc 1)

pow_pos : (j : ℕ) → 0 < 2 ^ j
pow_pos zero = zero-lt-suc zero
pow_pos (suc j) = let h = pow-lt (zero-lt-suc j) in omega arith

pub bit_zero : (j : ℕ) → bit 0 j ≡ 0
bit_zero j = ap (λ (y : ℕ). y % 2) (div-eq_of_lt (pow_pos j))

-- the lowest bit, and the others: they are those of the half
bit_low : (x : ℕ) → bit x 0 ≡ x % 2
bit_low x = omega arith

pub bit_half : (x j : ℕ) → bit x (suc j) ≡ bit (x / 2) j
bit_half x j = ap (λ (y : ℕ). x / 2 ^ y % 2) (sym (one-add j)) ∙ ap (λ (y : ℕ). y % 2) (sym (shr-shr x 1 j))

-- the operations go bit by bit
or_bit : (a b j : ℕ) → bit (bit_or a b) j ≡ max (bit a j) (bit b j)
or_bit a b j =
    ap (λ (y : ℕ). y % 2) (or_shr a b j ∙ or_step (a / 2 ^ j) (b / 2 ^ j)) ∙ digits_mod (bit_or (a / 2 ^ j / 2) (b / 2 ^ j / 2)) (let p = bit_lt a j in let q = bit_lt b j in omega arith)

and_bit : (a b j : ℕ) → bit (bit_and a b) j ≡ min (bit a j) (bit b j)
and_bit a b j =
    ap (λ (y : ℕ). y % 2) (and_shr a b j ∙ and_step (a / 2 ^ j) (b / 2 ^ j)) ∙ digits_mod (bit_and (a / 2 ^ j / 2) (b / 2 ^ j / 2)) (let p = bit_lt a j in let q = bit_lt b j in omega arith)

xor_bit : (a b j : ℕ) → bit (bit_xor a b) j ≡ differ (bit a j) (bit b j)
xor_bit a b j =
    ap (λ (y : ℕ). y % 2) (xor_shr a b j ∙ xor_step (a / 2 ^ j) (b / 2 ^ j)) ∙ digits_mod (bit_xor (a / 2 ^ j / 2) (b / 2 ^ j / 2)) (differ_lt (bit a j) (bit b j) (bit_lt a j) (bit_lt b j))
  where
    differ_lt : (a b : ℕ) → a < 2 → b < 2 → differ a b < 2
    differ_lt zero b p q = q
    differ_lt (suc zero) zero p q = p
    differ_lt (suc zero) (suc b) p q = omega arith
    differ_lt (suc (suc a)) b p q = absurd (omega arith)

-- of a single bit
one_same : (k : ℕ) → bit (2 ^ k) k ≡ 1
one_same k = ap (λ (y : ℕ). y % 2) (div_self (pow_pos k))

one_other : (k j : ℕ) → (j ≡ k → ⊥) → bit (2 ^ k) j ≡ 0
one_other k j d =
    elim (dec_lt k j) [
      | yes h ↦ ap (λ (y : ℕ). y % 2) (div-eq_of_lt (pow-lt h))
      | no h ↦
          let e : suc (k - suc j) + j ≡ k = omega arith in
          ap (λ (y : ℕ). 2 ^ y / 2 ^ j % 2) (sym e) ∙ (ap (λ (y : ℕ). y / 2 ^ j % 2) (pow-add 2 (suc (k - suc j)) j) ∙ (ap (λ (y : ℕ). y % 2) (shl-shr (2 ^ suc (k - suc j)) j) ∙ even (k - suc j)))
    ]
  where
    even : (m : ℕ) → 2 ^ suc m % 2 ≡ 0
    even m = let z = pow-suc 2 m in rw z (omega arith)

-- a bit that is set, and the others
pub set_same : (x k : ℕ) → bit (bit_or x (2 ^ k)) k ≡ 1
set_same x k = or_bit x (2 ^ k) k ∙ rw (one_same k) (let p = bit_lt x k in omega arith)

pub set_other : (x k j : ℕ) → (j ≡ k → ⊥) → bit (bit_or x (2 ^ k)) j ≡ bit x j
set_other x k j d = or_bit x (2 ^ k) j ∙ rw (one_other k j d) (omega arith)

-- a bit that is cleared, and the others
pub cut_same : (x k : ℕ) → bit (bit_xor x (bit_and x (2 ^ k))) k ≡ 0
cut_same x k = xor_bit x (bit_and x (2 ^ k)) k ∙ rw (and_bit x (2 ^ k) k, one_same k) (none (bit x k) (bit_lt x k))
  where
    none : (d : ℕ) → d < 2 → differ d (min d 1) ≡ 0
    none zero h = refl
    none (suc zero) h = refl
    none (suc (suc d)) h = absurd (omega arith)

pub cut_other : (x k j : ℕ) → (j ≡ k → ⊥) → bit (bit_xor x (bit_and x (2 ^ k))) j ≡ bit x j
cut_other x k j d = xor_bit x (bit_and x (2 ^ k)) j ∙ rw (and_bit x (2 ^ k) j, one_other k j d) (all (bit x j) (bit_lt x j))
  where
    all : (d : ℕ) → d < 2 → differ d (min d 0) ≡ d
    all zero h = refl
    all (suc zero) h = refl
    all (suc (suc d)) h = absurd (omega arith)

-- the lowest set bit
pub record Lowest (x k : ℕ) : Type 0 where
  pub below : count_trailing_zeros k x < k
  pub found : bit x (count_trailing_zeros k x) ≡ 1
  pub before : (j : ℕ) → j < count_trailing_zeros k x → bit x j ≡ 0

-- a number with a set bit below, and one whose lowest set bit is that of its half
odd_lowest : (k x : ℕ) → x % 2 ≡ 1 → Lowest x (suc k)
unfolding count_trailing_zeros
odd_lowest k x e = let z : count_trailing_zeros (suc k) x ≡ 0 = rw e in record { below = omega arith; found = rw z (bit_low x ∙ e); before = λ j h. absurd (omega arith) }

even_lowest : (k x : ℕ) → x % 2 ≡ 0 → Lowest (x / 2) k → Lowest x (suc k)
unfolding count_trailing_zeros
even_lowest k x e l =
    let z : count_trailing_zeros (suc k) x ≡ suc (count_trailing_zeros k (x / 2)) = rw e in
    let b = l.below in
    record { below = omega arith; found = rw z (bit_half x _ ∙ l.found); before = before z }
  where
    before : count_trailing_zeros (suc k) x ≡ suc (count_trailing_zeros k (x / 2)) → (j : ℕ) → j < count_trailing_zeros (suc k) x → bit x j ≡ 0
    before z zero h = bit_low x ∙ e
    before z (suc j) h = bit_half x j ∙ l.before j (omega arith)

pub lowest_bit : (k x : ℕ) → (x ≡ 0 → ⊥) → x < 2 ^ k → Lowest x k
lowest_bit zero x d h = absurd (d (omega arith))
lowest_bit (suc k) x d h =
    let h' : x < 2 ^ k * 2 = rw (sym (pow-suc 2 k)) h in
    elim (ℕ_discrete (x % 2) 0) [
      | yes e ↦ even_lowest k x e (lowest_bit k (x / 2) (λ z. d (omega arith)) (omega arith))
      | no e ↦ odd_lowest k x (omega arith)
    ]

-- numbers with the same bits are one
pub bits_same : (k x y : ℕ) → x < 2 ^ k → y < 2 ^ k → ((j : ℕ) → j < k → bit x j ≡ bit y j) → x ≡ y
bits_same zero x y a b f = omega arith
bits_same (suc k) x y a b f =
    let a' : x < 2 ^ k * 2 = rw (sym (pow-suc 2 k)) a in
    let b' : y < 2 ^ k * 2 = rw (sym (pow-suc 2 k)) b in
    let half = bits_same k (x / 2) (y / 2) (omega arith) (omega arith) (λ j h. sym (bit_half x j) ∙ (f (suc j) (omega arith) ∙ bit_half y j)) in
    let low : x % 2 ≡ y % 2 = sym (bit_low x) ∙ (f 0 (omega arith) ∙ bit_low y) in
    omega arith
