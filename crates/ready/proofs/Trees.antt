-- Laws of sets: changes outside one, a set of zeros, and one word of a row that gets another value.
-- Assumes nothing.
use Prim.Native.Nat.{ℕ, zero, suc, ◌+◌, ◌-◌, ◌*◌, ◌/◌, ◌%◌, ◌≤◌, ◌<◌}
use mathlib.Core.Path.{◌≡◌, refl, ap, sym, ◌∙◌, subst}
use mathlib.Core.Bool.{Bool, false, not}
use mathlib.Core.List.{List}
use mathlib.Core.Logic.{◌⊎◌, inl, inr}
use native.Mathlib.Decide.{dec_lt, ℕ_discrete}
use native.Mathlib.Omega.{arith}
use lib.Dec.{eqb}
use lib.ListN.{length, drop, set, get_or, length-set, length-drop}
use lib.Seq.{get_or-drop, get_or-set_same, get_or-set_other}
use Rattle.ready.specs.Tree.{width, words, word, bit, member, Row, Tree, one, more, InRow, here, above, Changed}
use Rattle.ready.proofs.Bits.{bit_zero}

-- equal words and bits tell the same
pub tells : {a b : ℕ} → a ≡ b → not (eqb a 0) ≡ not (eqb b 0)
tells e = ap (λ (y : ℕ). not (eqb y 0)) e

same_bit : (w w' : List ℕ) (n i : ℕ) → word w' (i / width) ≡ word w (i / width) → member w' n i ≡ member w n i
same_bit w w' n i e = ap (λ (y : ℕ). not (eqb (bit y (i % width)) 0)) e

-- what is the same in two lists is so behind a row
dropped : (w w' : List ℕ) (k p : ℕ) → get_or w' (k + p) 0 ≡ get_or w (k + p) 0 → get_or (drop k w') p 0 ≡ get_or (drop k w) p 0
dropped w w' k p e = get_or-drop k w' p 0 ∙ (e ∙ sym (get_or-drop k w p 0))

long_drop : (w w' : List ℕ) (k : ℕ) → length w' ≡ length w → length (drop k w') ≡ length (drop k w)
long_drop w w' k e = simp (length-drop, e)

-- the set above a row has as many ids as the row has words
pub above_count : (n : ℕ) → width < n → (n - 1) / width + 1 ≡ words n
above_count n h = omega arith

-- the row of a set, and the set above a row of more than one word
pub row_of : {w : List ℕ} {n : ℕ} → Tree w n → Row w n
row_of (one h r) = r
row_of (more h r l t) = r

record Upper (w : List ℕ) (n : ℕ) : Type 0 where
  tells_of : (k : ℕ) → k < words n → member (drop (words n) w) (words n) k ≡ not (eqb (word w k) 0)
  tree : Tree (drop (words n) w) (words n)

upper_of : {w : List ℕ} {n : ℕ} → width < n → Tree w n → Upper w n
upper_of h (one g r) = absurd (omega arith)
upper_of h (more g r l t) = record { tells_of = l; tree = t }

pub above_tells : {w : List ℕ} {n : ℕ} → width < n → Tree w n → (k : ℕ) → k < words n → member (drop (words n) w) (words n) k ≡ not (eqb (word w k) 0)
above_tells l t = (upper_of l t).tells_of

pub above_tree : {w : List ℕ} {n : ℕ} → width < n → Tree w n → Tree (drop (words n) w) (words n)
above_tree l t = (upper_of l t).tree

row_outside : (w w' : List ℕ) (n : ℕ) → length w' ≡ length w → ((k : ℕ) → k < words n → word w' k ≡ word w k) → Row w n → Row w' n
row_outside w w' n l s r = let f = r.fits in record { fits = omega arith; clear = λ k j a b c. ap (λ (y : ℕ). bit y j) (s k a) ∙ r.clear k j a b c }

-- a change outside a set leaves it as it is
tree_kept : (w w' : List ℕ) {n : ℕ} → length w' ≡ length w → ((p : ℕ) → p < n + n → get_or w' p 0 ≡ get_or w p 0) → Tree w n → Tree w' n
tree_kept w w' {n} l s (one h r) = one h (row_outside w w' n l (λ k a. s k (omega arith)) r)
tree_kept w w' {n} l s (more h r g t) =
    let same : (k : ℕ) → k < words n → word w' k ≡ word w k = λ k a. s k (omega arith) in
    let upper : (p : ℕ) → p < words n + words n → get_or (drop (words n) w') p 0 ≡ get_or (drop (words n) w) p 0 = λ p b. dropped w w' (words n) p (s (words n + p) (omega arith)) in
    more h
    (row_outside w w' n l same r)
    (λ k a. same_bit (drop (words n) w) (drop (words n) w') (words n) k (upper (k / width) (omega arith)) ∙ (g k a ∙ tells (sym (same k a))))
    (tree_kept (drop (words n) w) (drop (words n) w') (long_drop w w' (words n) l) upper t)

pub tree_outside : (w w' : List ℕ) (n : ℕ) → length w' ≡ length w → ((p : ℕ) → p < n + n → get_or w' p 0 ≡ get_or w p 0) → Tree w n
    → Tree w' n × ((i : ℕ) → i < n → member w' n i ≡ member w n i)
tree_outside w w' n l s t = (tree_kept w w' l s t, λ i h. same_bit w w' n i (s (i / width) (omega arith)))

-- words of zeros are the empty set
no_bit : (w : List ℕ) (n i : ℕ) → word w (i / width) ≡ 0 → member w n i ≡ false
no_bit w n i e = ap (λ (y : ℕ). not (eqb (bit y (i % width)) 0)) e ∙ tells (bit_zero (i % width))

zero_row : (w : List ℕ) (n : ℕ) → n + n ≤ length w → ((p : ℕ) → p < n + n → get_or w p 0 ≡ 0) → Row w n
zero_row w n f z = record { fits = omega arith; clear = λ k j a b c. ap (λ (y : ℕ). bit y j) (z k (omega arith)) ∙ bit_zero j }

zero_tree : (m : ℕ) (w : List ℕ) (n : ℕ) → n ≤ m → n + n ≤ length w → ((p : ℕ) → p < n + n → get_or w p 0 ≡ 0) → Tree w n
zero_tree zero w n h f z = one {n = n} (omega arith) (zero_row w n f z)
zero_tree (suc m) w n h f z =
    elim (dec_lt width n) [
      | no q ↦ one {n = n} (omega arith) (zero_row w n f z)
      | yes q ↦
          let upper : (p : ℕ) → p < words n + words n → get_or (drop (words n) w) p 0 ≡ 0 = λ p b. get_or-drop (words n) w p 0 ∙ z (words n + p) (omega arith) in
          more {n = n} q (zero_row w n f z)
          (λ k a. no_bit (drop (words n) w) (words n) k (upper (k / width) (omega arith)) ∙ sym (tells (z k (omega arith))))
          (zero_tree m (drop (words n) w) (words n) (omega arith) (simp length-drop (omega arith)) upper)
    ]

pub empty_tree : (w : List ℕ) (n : ℕ) → n + n ≤ length w → ((p : ℕ) → p < n + n → get_or w p 0 ≡ 0) → Tree w n × ((i : ℕ) → i < n → member w n i ≡ false)
empty_tree w n f z = (zero_tree n w n (omega arith) f z, λ i h. no_bit w n i (z (i / width) (omega arith)))

-- x is the word `old` with bit j set or cleared as b says
pub record Edit (b : Bool) (old x j : ℕ) : Type 0 where
  pub own : not (eqb (bit x j) 0) ≡ b
  pub others : (l : ℕ) → (l ≡ j → ⊥) → bit x l ≡ bit old l

-- w' is w with the word of id i edited, and in the rows above anything that is a set again
module _ (b : Bool) (w w' : List ℕ) (n i x : ℕ) (h : i < n) (t : Tree w n) (e : Edit b (word w (i / width)) x (i % width)) (size : length w' ≡ length w)
    (row : (k : ℕ) → k < words n → word w' k ≡ word (set w (i / width) x) k) where
  fits : words n ≤ length w
  fits = (row_of t).fits

  own_word : word w' (i / width) ≡ x
  own_word = row (i / width) (omega arith) ∙ get_or-set_same w (i / width) x 0 (omega (arith, fits))

  other_word : (k : ℕ) → k < words n → (k ≡ i / width → ⊥) → word w' k ≡ word w k
  other_word k l d = row k l ∙ get_or-set_other w (i / width) k x 0 d

  edited_own : member w' n i ≡ b
  edited_own = ap (λ (y : ℕ). not (eqb (bit y (i % width)) 0)) own_word ∙ e.own

  edited_others : (j : ℕ) → j < n → (j ≡ i → ⊥) → member w' n j ≡ member w n j
  edited_others j l d =
      elim (ℕ_discrete (j / width) (i / width)) [
        | yes q ↦ rw (q, own_word) (tells (e.others (j % width) (omega arith)))
        | no q ↦ same_bit w w' n j (other_word (j / width) (omega arith) q)
      ]

  edited_row : Row w' n
  edited_row = record { fits = omega (arith, fits); clear = clear }
    where
      clear : (k j : ℕ) → k < words n → j < width → n ≤ width * k + j → bit (word w' k) j ≡ 0
      clear k j a c d =
          elim (ℕ_discrete k (i / width)) [
            | yes q ↦ rw (q, own_word) (e.others j (omega arith) ∙ (row_of t).clear (i / width) j (omega arith) c (omega arith))
            | no q ↦ ap (λ (y : ℕ). bit y j) (other_word k a q) ∙ (row_of t).clear k j a c d
          ]

  -- the set of words that are not 0, of the edited row
  abbrev Above : Type 0
  Above = (member (drop (words n) w') (words n) (i / width) ≡ not (eqb x 0))
      × (((k : ℕ) → k < words n → (k ≡ i / width → ⊥) → member (drop (words n) w') (words n) k ≡ member (drop (words n) w) (words n) k) × Tree (drop (words n) w') (words n))

  edited_tree : (n ≤ width) ⊎ ((width < n) × Above) → Tree w' n
  edited_tree (inl q) = one {n = n} q edited_row
  edited_tree (inr (q, (own, (others, up)))) = more {n = n} q edited_row links up
    where
      links : (k : ℕ) → k < words n → member (drop (words n) w') (words n) k ≡ not (eqb (word w' k) 0)
      links k a =
          elim (ℕ_discrete k (i / width)) [
            | yes z ↦ rw (z, own_word) own
            | no z ↦ others k a z ∙ ((upper_of q t).tells_of k a ∙ tells (sym (other_word k a z)))
          ]

-- the set above a row does not see an edit of the row
module _ (w : List ℕ) (n i x : ℕ) (h : i < n) where
  behind_kept : (p : ℕ) → get_or (drop (words n) (set w (i / width) x)) p 0 ≡ get_or (drop (words n) w) p 0
  behind_kept p = dropped w (set w (i / width) x) (words n) p (get_or-set_other w (i / width) (words n + p) x 0 (omega arith))

  above_kept : (k : ℕ) → member (drop (words n) (set w (i / width) x)) (words n) k ≡ member (drop (words n) w) (words n) k
  above_kept k = same_bit (drop (words n) w) (drop (words n) (set w (i / width) x)) (words n) k (behind_kept (k / width))

  pub above_edited : width < n → Tree w n → Tree (drop (words n) (set w (i / width) x)) (words n)
  above_edited l t =
      tree_kept (drop (words n) w) (drop (words n) (set w (i / width) x)) (long_drop w (set w (i / width) x) (words n) (length-set w (i / width) x)) (λ p a. behind_kept p) (upper_of l t).tree

-- the word of id i edited, and no word above: the row is one word, or the edited word is 0 as it was, or is not as it was not
pub changed_here : {b : Bool} {w : List ℕ} {n i x : ℕ} → i < n → Tree w n → Edit b (word w (i / width)) x (i % width)
    → (n ≤ width) ⊎ (not (eqb (word w (i / width)) 0) ≡ not (eqb x 0)) → Changed b w (set w (i / width) x) n i
changed_here {b} {w} {n} {i} {x} h t e c =
    record {
      tree = edited_tree b w (set w (i / width) x) n i x h t e size (λ k a. refl) (stands c (dec_lt width n));
      changed = edited_own b w (set w (i / width) x) n i x h t e size (λ k a. refl);
      others = edited_others b w (set w (i / width) x) n i x h t e size (λ k a. refl);
      unused = λ k a u. get_or-set_other w (i / width) k x 0 (λ z. u (here {k = k} (omega arith)));
      rest = λ p o. get_or-set_other w (i / width) p x 0 (omega arith);
    }
  where
    size : length (set w (i / width) x) ≡ length w
    size = length-set w (i / width) x

    stands : (n ≤ width) ⊎ (not (eqb (word w (i / width)) 0) ≡ not (eqb x 0)) → Dec (width < n)
        → (n ≤ width) ⊎ ((width < n) × Above b w (set w (i / width) x) n i x h t e size (λ k a. refl))
    stands (inl q) d = inl q
    stands (inr q) (no d) = inl (omega arith)
    stands (inr q) (yes d) =
        inr (d, (above_kept w n i x h (i / width) ∙ ((upper_of d t).tells_of (i / width) (omega arith) ∙ q), (λ k a r. above_kept w n i x h k, above_edited w n i x h d t)))

-- the word of id i edited, and then its own number in the set above
pub changed_above : {b : Bool} {w w' : List ℕ} {n i x : ℕ} → i < n → width < n → Tree w n → Edit b (word w (i / width)) x (i % width) → length w' ≡ length w
    → ((k : ℕ) → k < words n → word w' k ≡ word (set w (i / width) x) k)
    → Changed (not (eqb x 0)) (drop (words n) (set w (i / width) x)) (drop (words n) w') (words n) (i / width) → Changed b w w' n i
changed_above {b} {w} {w'} {n} {i} {x} h l t e size row c =
    record {
      tree = edited_tree b w w' n i x h t e size row (inr (l, (c.changed, (λ k a d. c.others k a d ∙ above_kept w n i x h k, c.tree))));
      changed = edited_own b w w' n i x h t e size row;
      others = edited_others b w w' n i x h t e size row;
      unused = λ k a u. unused k u (dec_lt k (words n)) (dec_lt k (words n + (words n + words n)));
      rest = λ p o. beyond p (omega arith) (c.rest (p - words n) (omega arith));
    }
  where
    -- a word behind the row that is as it was above
    beyond : (p : ℕ) → words n ≤ p → get_or (drop (words n) w') (p - words n) 0 ≡ get_or (drop (words n) (set w (i / width) x)) (p - words n) 0 → get_or w' p 0 ≡ get_or w p 0
    beyond p a e =
        let z : words n + (p - words n) ≡ p = omega arith in
        rw (get_or-drop (words n) w' (p - words n) 0, get_or-drop (words n) (set w (i / width) x) (p - words n) 0, z) at e ∙ get_or-set_other w (i / width) p x 0 (omega arith)

    unused : (k : ℕ) → (InRow n k → ⊥) → Dec (k < words n) → Dec (k < words n + (words n + words n)) → word w' k ≡ word w k
    unused k u (yes q) r = absurd (u (here {k = k} q))
    unused k u (no q) (no r) = beyond k (omega arith) (c.rest (k - words n) (omega arith))
    unused k u (no q) (yes r) =
        let z : words n + (k - words n) ≡ k = omega arith in
        beyond k (omega arith) (c.unused (k - words n) (omega arith) (λ v. u (subst (InRow n) z (above {k = k - words n} l v))))
