-- Records written and read again: reading back what was written gives the same node.
-- Assumes nothing.
use Prim.Native.Nat.{ℕ, zero, suc, ◌+◌, ◌*◌, ◌^◌, ◌/◌, ◌<◌, ◌≤◌}
use mathlib.Core.Path.{◌≡◌, refl, sym}
use mathlib.Core.List.{List, [], ◌∷◌, ◌++◌, Memᴰ, append_assoc}
use native.Mathlib.Omega.{arith}
use lib.ListN.{length, take, length-append, length-take}
use lib.Seq.{take_at, drop_at}
use Rattle.record.specs.Lists.{over, flat}
use Rattle.record.specs.Node.{fields, words, size, record_at, node_at, node_bytes}
use Rattle.record.specs.Number.{le, number, numbers, bytes}
use Rattle.record.specs.declared.Node.{Node}
use Rattle.record.proofs.Lengths.{length_bytes, length_words, Full}

-- a list of bytes
abbrev pub Octets : List ℕ → Type 0
Octets l = (x : ℕ) → Memᴰ x l → x < 256

-- the numbers of a list fit k bytes each
abbrev pub Within : ℕ → List ℕ → Type 0
Within k l = (x : ℕ) → Memᴰ x l → x < 256 ^ k

-- what the struct's fields can hold, bad or not
pub record Fits (n : Node) : Type 0 where
  pub full : Full n
  pub kind_fits : n.kind < 256 ^ 4
  pub count_fits : n.count < 256 ^ 4
  pub kids_fit : Within 4 n.kids
  pub digest_fits : Within 8 n.digest

-- WRITTEN, THEN READ ------------------------------------------------------------------------------

-- bytes make the number again
pub le_bytes : (k x : ℕ) → x < 256 ^ k → le (bytes k x) ≡ x
unfolding le bytes
le_bytes zero x h = omega arith
le_bytes (suc k) x h = rw (le_bytes k (x / 256) (omega arith)) (omega arith)

module _ (p : List ℕ) (k at : ℕ) (e : at ≡ length p) where
  -- a number that was written behind p
  number_back : (x : ℕ) (r : List ℕ) → x < 256 ^ k → number k (p ++ (bytes k x ++ r)) at ≡ x
  unfolding number
  number_back x r h = rw (drop_at p (bytes k x ++ r) at (sym e), take_at (bytes k x) r k (length_bytes k x)) (le_bytes k x h)

-- numbers that were written behind p
numbers_back : (k n at : ℕ) (p l r : List ℕ) → at ≡ length p → n ≡ length l → Within k l → numbers k n (p ++ (flat (bytes k) l ++ r)) at ≡ l
unfolding numbers flat
numbers_back k zero at p [] r e q h = refl
numbers_back k zero at p (x ∷ l) r e q h = absurd (omega arith)
numbers_back k (suc n) at p [] r e q h = absurd (omega arith)
numbers_back k (suc n) at p (x ∷ l) r e q h =
    let a : number k (p ++ (bytes k x ++ (flat (bytes k) l ++ r))) at ≡ x = number_back p k at e x (flat (bytes k) l ++ r) (h x (Memᴰ.head refl)) in
    let b : numbers k n ((p ++ bytes k x) ++ (flat (bytes k) l ++ r)) (at + k) ≡ l = numbers_back k n (at + k) (p ++ bytes k x) l r (simp (length-append, length_bytes) (omega arith)) (omega arith) (λ y m. h y (Memᴰ.tail m)) in
    let c : numbers k n (p ++ (bytes k x ++ (flat (bytes k) l ++ r))) (at + k) ≡ l = rw append_assoc at b in
    rw (append_assoc, a, c)

-- the record that was written behind p
pub record_back : (n : Node) → Fits n → (p r : List ℕ) (at : ℕ) → at ≡ length p → record_at (p ++ (node_bytes n ++ r)) at ≡ n
unfolding record_at node_bytes
record_back n f p r at e =
    let a : List ℕ = bytes 4 n.kind in
    let b : List ℕ = bytes 4 n.count in
    let c : List ℕ = flat (bytes 4) n.kids in
    let d : List ℕ = flat (bytes 8) n.digest in
    let la : length a ≡ 4 = length_bytes 4 n.kind in
    let lb : length b ≡ 4 = length_bytes 4 n.count in
    let lc : length c ≡ 4 * length n.kids = length_words 4 n.kids in
    let lk : length n.kids ≡ fields = f.full.kids_long in
    let whole : (a ++ (b ++ (c ++ d))) ++ r ≡ a ++ (b ++ (c ++ (d ++ r))) = simp append_assoc in
    let ek : number 4 (p ++ (a ++ (b ++ (c ++ (d ++ r))))) at ≡ n.kind = number_back p 4 at e n.kind _ f.kind_fits in
    let ec : number 4 ((p ++ a) ++ (b ++ (c ++ (d ++ r)))) (at + 4) ≡ n.count = number_back (p ++ a) 4 (at + 4) (simp length-append (omega arith)) n.count _ f.count_fits in
    let es : numbers 4 fields (((p ++ a) ++ b) ++ (c ++ (d ++ r))) (at + 8) ≡ n.kids = numbers_back 4 fields (at + 8) ((p ++ a) ++ b) n.kids (d ++ r) (simp length-append (omega arith)) (sym f.full.kids_long) f.kids_fit in
    let ed : numbers 8 words ((((p ++ a) ++ b) ++ c) ++ (d ++ r)) (at + (8 + 4 * fields)) ≡ n.digest = numbers_back 8 words (at + (8 + 4 * fields)) (((p ++ a) ++ b) ++ c) n.digest r (simp length-append (omega arith)) (sym f.full.digest_long) f.digest_fits in
    rw (whole, ek, ← (append_assoc p a (b ++ (c ++ (d ++ r)))), ec, ← (append_assoc (p ++ a) b (c ++ (d ++ r))), es, ← (append_assoc ((p ++ a) ++ b) c (d ++ r)), ed)

-- Reading back what was written gives the same node, whatever stands around it
pub round_trip : (n : Node) → Fits n → (s : List ℕ) (i : ℕ) → size * i + size ≤ length s → node_at (over s (size * i) (node_bytes n)) i ≡ n
unfolding node_at over
round_trip n f s i h = record_back n f (take (size * i) s) _ (size * i) (omega (arith, length-take (size * i) s))
