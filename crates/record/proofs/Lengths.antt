-- How long what is read and written is.
-- Assumes nothing.
use Prim.Native.Nat.{ℕ, zero, suc, ◌+◌, ◌*◌, ◌/◌}
use mathlib.Core.Path.{◌≡◌, refl, ap}
use mathlib.Core.List.{List, [], ◌∷◌}
use native.Mathlib.Omega.{arith}
use lib.ListN.{length, length-append}
use Rattle.record.specs.Lists.{run, flat}
use Rattle.record.specs.Node.{fields, words, size, node_bytes}
use Rattle.record.specs.Number.{numbers, bytes}
use Rattle.record.specs.declared.Node.{Node}

pub length_bytes : (k x : ℕ) → length (bytes k x) ≡ k
unfolding bytes
length_bytes zero x = refl
length_bytes (suc k) x = ap suc (length_bytes k (x / 256))

pub length_flat : {A : Type 0} (f : A → List ℕ) (k : ℕ) → ((x : A) → length (f x) ≡ k) → (l : List A) → length (flat f l) ≡ k * length l
unfolding flat
length_flat f k h [] = omega arith
length_flat f k h (x ∷ l) = simp (length-append, h x, length_flat f k h l) (omega arith)

-- numbers of k bytes each
pub length_words : (k : ℕ) (d : List ℕ) → length (flat (bytes k) d) ≡ k * length d
length_words k d = length_flat (bytes k) k (length_bytes k) d

pub length_numbers : (k n : ℕ) (s : List ℕ) (at : ℕ) → length (numbers k n s at) ≡ n
unfolding numbers
length_numbers k zero s at = refl
length_numbers k (suc n) s at = ap suc (length_numbers k n s (at + k))

pub length_run : (a n : ℕ) → length (run a n) ≡ n
unfolding run
length_run a zero = refl
length_run a (suc n) = ap suc (length_run (suc a) n)

-- as many child fields and digest words as a record has
pub record Full (n : Node) : Type 0 where
  pub kids_long : length n.kids ≡ fields
  pub digest_long : length n.digest ≡ words

-- the record of a full node has the size of a record
pub length_node_bytes : (n : Node) → Full n → length (node_bytes n) ≡ size
unfolding node_bytes
length_node_bytes n f = let p = f.kids_long in let q = f.digest_long in simp (length-append, length_bytes, length_words) (omega arith)
