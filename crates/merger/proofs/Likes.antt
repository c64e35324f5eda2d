-- Laws of the search for an equal earlier node: the same children, and one node like another.
-- Assumes nothing.
use Prim.Native.Nat.{ℕ, suc, ◌+◌, ◌<◌, ◌≤◌}
use mathlib.Core.Path.{◌≡◌, refl, sym, ◌∙◌, ap}
use mathlib.Core.Bool.{Bool, true, false, not, ◌&&◌, ◌||◌, and-false, true≢false}
use mathlib.Core.List.{List, [], ◌∷◌}
use mathlib.Core.Logic.{◌≢◌}
use native.Mathlib.Decide.{dec_lt}
use native.Mathlib.Omega.{arith}
use native.Mathlib.Numerals.{add-one}
use lib.Dec.{ltb, eqb}
use borrow.Author.Tests.{eqb-true, ltb-true, lt-ltb, not-true, not-false, eq-eqb, ne_eqb}
use lib.ListN.{length, take, drop, get_or, length-take, drop_of_length-le}
use lib.Seq.{drop-cons, get_or-take}
use Rattle.record.specs.Lists.{same}
use Rattle.record.specs.Node.{fields, node_at, children, renumber, same_node}
use Rattle.record.specs.declared.Node.{Node}
use Rattle.record.proofs.Basics.{both_true, either_false, same_eq}
use Rattle.sorting.specs.Digests.{holds}
use Rattle.merger.specs.Walking.{merged_at}

-- THE SAME CHILDREN -------------------------------------------------------------------------------

pub same_lengths : (l m : List ℕ) → length l ≢ length m → same l m ≡ false
unfolding same
same_lengths [] [] h = absurd (h refl)
same_lengths [] (y ∷ m) h = refl
same_lengths (x ∷ l) [] h = refl
same_lengths (x ∷ l) (y ∷ m) h = rw (same_lengths l m (λ e. h (omega (arith, e)))) (and-false (eqb x y))

-- what the first n of two lists have among their first i is the same
pub record Matching (l m : List ℕ) (n i : ℕ) : Type 0 where
  pub so_far : same (take n l) (take n m) ≡ same (drop i (take n l)) (drop i (take n m))

pub matching_start : (l m : List ℕ) (n : ℕ) → Matching l m n 0
matching_start l m n = record { so_far = refl }

module _ {l m : List ℕ} {n i : ℕ} (a : Matching l m n i) (one : n ≤ length l) (two : n ≤ length m) where
  next_two : i < n → same (take n l) (take n m) ≡ (eqb (get_or l i 0) (get_or m i 0) && same (drop (suc i) (take n l)) (drop (suc i) (take n m)))
  unfolding same
  next_two h =
      let p = length-take n l in
      let q = length-take n m in
      a.so_far ∙ rw (drop-cons (take n l) i 0 (omega arith), drop-cons (take n m) i 0 (omega arith), get_or-take n l i 0 h, get_or-take n m i 0 h) refl

  pub matching_fails : (ltb i n && not (eqb (get_or l i 0) (get_or m i 0))) ≡ true → false ≡ same (take n l) (take n m)
  matching_fails e =
      let (h, d) = both_true (ltb i n) (not (eqb (get_or l i 0) (get_or m i 0))) e in
      sym (next_two (ltb-true _ _ h) ∙ rw (not-true (eqb (get_or l i 0) (get_or m i 0)) d) refl)

  -- behind the n nothing is left to compare
  none_left : (j : ℕ) → n ≤ j → true ≡ same (drop j (take n l)) (drop j (take n m))
  unfolding same
  none_left j h =
      let p = length-take n l in
      let q = length-take n m in
      rw (drop_of_length-le (take n l) {i = j} (omega arith), drop_of_length-le (take n m) {i = j} (omega arith)) refl

  pub matching_ends : n ≤ i → true ≡ same (take n l) (take n m)
  matching_ends h = none_left i h ∙ sym a.so_far

  pub matching_step : (ltb i n && not (eqb (get_or l i 0) (get_or m i 0))) ≡ false → Matching l m n (i + 1)
  matching_step e = elim (dec_lt i n) [ yes h ↦ inside h | no h ↦ past (omega arith) ]
    where
      inside : i < n → Matching l m n (i + 1)
      inside h =
          let d : not (eqb (get_or l i 0) (get_or m i 0)) ≡ false = rw (lt-ltb i n h) at e in
          record { so_far = next_two h ∙ rw (not-false (eqb (get_or l i 0) (get_or m i 0)) d, add-one) refl }

      past : n ≤ i → Matching l m n (i + 1)
      past h = record { so_far = sym (matching_ends h) ∙ none_left (i + 1) (omega arith) }

-- children of two nodes whose counts fit
pub different_counts : (a b : Node) → length a.kids ≡ fields → length b.kids ≡ fields → a.count ≤ fields → b.count ≤ fields → a.count ≢ b.count → false ≡ same (children a) (children b)
unfolding children
different_counts a b x y p q d =
    let u = length-take a.count a.kids in
    let v = length-take b.count b.kids in
    sym (same_lengths (take a.count a.kids) (take b.count b.kids) (λ e. d (omega arith)))

pub alike_counts : (a b : Node) → a.count ≡ b.count → same (take a.count a.kids) (take a.count b.kids) ≡ same (children a) (children b)
unfolding children
alike_counts a b e = ap (λ (k : ℕ). same (take a.count a.kids) (take k b.kids)) e

-- ONE NODE LIKE ANOTHER ---------------------------------------------------------------------------

module _ (s b v : List ℕ) (q : ℕ) (x : Node) where
  pub own_fits : (node_at s q).count ≤ fields → {y : Node} → y ≡ merged_at s b v q → y.count ≤ fields
  unfolding merged_at renumber
  own_fits h e = rw e h

  pub unlike_kind : (node_at s q).kind ≢ x.kind → false ≡ same_node x (merged_at s b v q)
  unfolding same_node merged_at renumber
  unlike_kind h = rw (ne_eqb x.kind (node_at s q).kind (λ e. h (sym e))) refl

  pub unlike_digest : holds s x.digest q ≡ false → false ≡ same_node x (merged_at s b v q)
  unfolding same_node merged_at renumber holds
  unlike_digest e = rw e (sym (and-false (eqb x.kind (node_at s q).kind)))

  -- what the first test says, of kind and first word together
  module _ (k : ℕ) (d : List ℕ) (own : k ≡ (node_at s q).kind) (of : d ≡ (node_at s q).digest) where
    pub unlike_front : (not (eqb k x.kind) || not (eqb (get_or d 0 0) (get_or x.digest 0 0))) ≡ true → false ≡ same_node x (merged_at s b v q)
    unfolding same_node merged_at renumber
    unlike_front h = sym (go (same_node x (merged_at s b v q)) refl)
      where
        go : (t : Bool) → same_node x (merged_at s b v q) ≡ t → same_node x (merged_at s b v q) ≡ false
        go false p = p
        go true p =
            let (a, e) = both_true (eqb x.kind (node_at s q).kind) (same x.digest (node_at s q).digest && same (children x) (children (merged_at s b v q))) p in
            let (f, g) = both_true (same x.digest (node_at s q).digest) (same (children x) (children (merged_at s b v q))) e in
            let y : x.kind ≡ k = eqb-true x.kind (node_at s q).kind a ∙ sym own in
            let z : x.digest ≡ d = same_eq x.digest (node_at s q).digest f ∙ sym of in
            absurd (true≢false (sym h ∙ rw (y, z, eq-eqb k k refl, eq-eqb (get_or d 0 0) (get_or d 0 0) refl) refl))

    pub front_kind : (not (eqb k x.kind) || not (eqb (get_or d 0 0) (get_or x.digest 0 0))) ≡ false → (node_at s q).kind ≡ x.kind
    front_kind h = sym own ∙ eqb-true k x.kind (not-false (eqb k x.kind) (either_false (not (eqb k x.kind)) (not (eqb (get_or d 0 0) (get_or x.digest 0 0))) h).0)

  module _ (kind : (node_at s q).kind ≡ x.kind) where
    pub like_by_children : holds s x.digest q ≡ true → {r : Bool} → r ≡ same (children x) (children (merged_at s b v q)) → r ≡ same_node x (merged_at s b v q)
    unfolding same_node merged_at renumber holds
    like_by_children e f = rw (eq-eqb x.kind (node_at s q).kind (sym kind), e) f
