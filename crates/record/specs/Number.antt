-- Document 01, 'Records': numbers in bytes, little-endian.
-- Assumes nothing: these are definitions.
use Rattle.std.specs.Prelude.{ℕ, zero, suc, ◌+◌, ◌*◌, ◌/◌, ◌%◌, List, [], ◌∷◌, take, drop}

-- the number that bytes stand for, the lowest first
unfoldable pub le : List ℕ → ℕ
le [] = 0
le (b ∷ bs) = b + 256 * le bs

-- the number in the k bytes from place at on
unfoldable pub number : ℕ → List ℕ → ℕ → ℕ
number k s at = le (take k (drop at s))

-- n numbers of k bytes each, from place at on
unfoldable pub numbers : ℕ → ℕ → List ℕ → ℕ → List ℕ
numbers k zero s at = []
numbers k (suc n) s at = number k s at ∷ numbers k n s (at + k)

-- a number as k bytes, the lowest first
unfoldable pub bytes : ℕ → ℕ → List ℕ
bytes zero x = []
bytes (suc k) x = x % 256 ∷ bytes k (x / 256)
