-- `Changed` leaves nothing open: any two outcomes of one change are the same list.
-- Assumes nothing.
use Prim.Native.Nat.{ℕ, zero, suc, ◌+◌, ◌-◌, ◌*◌, ◌/◌, ◌%◌, ◌^◌, ◌≤◌, ◌<◌}
use mathlib.Core.Path.{◌≡◌, refl, sym, ◌∙◌, subst}
use mathlib.Core.Bool.{Bool, not}
use mathlib.Core.List.{List}
use mathlib.Core.Logic.{◌⊎◌, inl, inr}
use native.Mathlib.Decide.{dec_lt, ℕ_discrete}
use native.Mathlib.Omega.{arith}
use borrow.Author.Tests.{ne_eqb}
use lib.Dec.{eqb}
use lib.ListN.{length, drop, get_or}
use lib.Seq.{ext_get_or, get_or-drop}
use Rattle.record.proofs.Basics.{clash}
use Rattle.ready.specs.Tree.{width, words, word, bit, member, Tree, InRow, here, above, Changed}
use Rattle.ready.proofs.Bits.{bit_lt, bits_same}
use Rattle.ready.proofs.Trees.{tells, row_of, above_tells, above_tree}

-- two bits that tell the same
alike : (a b : ℕ) → a < 2 → b < 2 → not (eqb a 0) ≡ not (eqb b 0) → a ≡ b
alike zero zero f g e = refl
alike zero (suc b) f g e = let z = rw (ne_eqb (suc b) 0 (omega arith)) at e in absurd (clash cc)
alike (suc a) zero f g e = let z = rw (ne_eqb (suc a) 0 (omega arith)) at e in absurd (clash cc)
alike (suc a) (suc b) f g e = omega arith

-- the members of a set give every word of its rows
row_same : (u v : List ℕ) (small : (p : ℕ) → (get_or u p 0 < 2 ^ width) × (get_or v p 0 < 2 ^ width)) {n : ℕ} → Tree u n → Tree v n
    → ((i : ℕ) → i < n → member u n i ≡ member v n i) → (k : ℕ) → k < words n → word u k ≡ word v k
row_same u v small {n} t s m k h = bits_same width (word u k) (word v k) (small k).0 (small k).1 bits
  where
    bits : (j : ℕ) → j < width → bit (word u k) j ≡ bit (word v k) j
    bits j l =
        elim (dec_lt (width * k + j) n) [
          | yes q ↦
              let z : (width * k + j) / width ≡ k = omega arith in
              let y : (width * k + j) % width ≡ j = omega arith in
              let f = m (width * k + j) q in
              let e = rw (z, y) at f in
              alike _ _ (bit_lt (word u k) j) (bit_lt (word v k) j) e
          | no q ↦ (row_of t).clear k j h l (omega arith) ∙ sym ((row_of s).clear k j h l (omega arith))
        ]

rows_same : (u v : List ℕ) (small : (p : ℕ) → (get_or u p 0 < 2 ^ width) × (get_or v p 0 < 2 ^ width)) {n k : ℕ} → Tree u n → Tree v n
    → ((i : ℕ) → i < n → member u n i ≡ member v n i) → InRow n k → word u k ≡ word v k
rows_same u v small t s m (here h) = row_same u v small t s m _ h
rows_same u v small {n = n} t s m (above {k = k} l r) =
    sym (get_or-drop (words n) u k 0)
    ∙ (rows_same (drop (words n) u) (drop (words n) v) (λ p. rw (get_or-drop (words n) u p 0, get_or-drop (words n) v p 0) (small (words n + p))) (above_tree l t) (above_tree l s)
    (λ i h. above_tells l t i h ∙ (tells (row_same u v small t s m i h) ∙ sym (above_tells l s i h))) r
    ∙ get_or-drop (words n) v k 0)

-- a word of a row is of the first, or of one above
past : {n k : ℕ} → InRow n k → (k < words n) ⊎ ((width < n) × InRow (words n) (k - words n))
past (here h) = inl h
past (above {n = n} {k = k} l r) = inr (l, (let z : k ≡ words n + k - words n = omega arith in subst (InRow (words n)) z r))

-- whether a word is part of a row
in_row : (m n k : ℕ) → n ≤ m → Dec (InRow n k)
in_row zero n k h = no (λ r. go (past r))
  where
    go : (k < words n) ⊎ ((width < n) × InRow (words n) (k - words n)) → ⊥
    go (inl a) = omega arith
    go (inr (a, r)) = omega arith
in_row (suc m) n k h = go (dec_lt k (words n)) (dec_lt width n) (λ l. in_row m (words n) (k - words n) (omega arith))
  where
    go : Dec (k < words n) → Dec (width < n) → (width < n → Dec (InRow (words n) (k - words n))) → Dec (InRow n k)
    go (yes a) d f = yes (here {k = k} a)
    go (no a) (no l) f = no (λ r. neither a l (past r))
      where
        neither : (k < words n → ⊥) → (width < n → ⊥) → (k < words n) ⊎ ((width < n) × InRow (words n) (k - words n)) → ⊥
        neither a l (inl b) = a b
        neither a l (inr (b, r)) = l b
    go (no a) (yes l) f = up (f l)
      where
        up : Dec (InRow (words n) (k - words n)) → Dec (InRow n k)
        up (yes r) = yes (let z : words n + (k - words n) ≡ k = omega arith in subst (InRow n) z (above {k = k - words n} l r))
        up (no r) = no (λ q. other (past q))
          where
            other : (k < words n) ⊎ ((width < n) × InRow (words n) (k - words n)) → ⊥
            other (inl b) = a b
            other (inr (b, q)) = r q

pub one_outcome : (b : Bool) (w u v : List ℕ) (n i : ℕ) → length u ≡ length v → ((p : ℕ) → (get_or u p 0 < 2 ^ width) × (get_or v p 0 < 2 ^ width)) → Changed b w u n i → Changed b w v n i → u ≡ v
one_outcome b w u v n i l small c d =
    ext_get_or 0 u v l (λ p h. elim (dec_lt p (n + n)) [
      | no r ↦ c.rest p (omega arith) ∙ sym (d.rest p (omega arith))
      | yes r ↦ inside p r (in_row n n p (omega arith))
    ])
  where
    members : (j : ℕ) → j < n → member u n j ≡ member v n j
    members j h =
        elim (ℕ_discrete j i) [
          | yes q ↦ rw q (c.changed ∙ sym d.changed)
          | no q ↦ c.others j h q ∙ sym (d.others j h q)
        ]

    inside : (k : ℕ) → k < n + n → Dec (InRow n k) → word u k ≡ word v k
    inside k h (yes r) = rows_same u v small c.tree d.tree members r
    inside k h (no r) = c.unused k h r ∙ sym (d.unused k h r)
