-- Laws of taking a ready id into the order.
-- Assumes nothing.
use Prim.Native.Nat.{ℕ, ◌+◌, ◌<◌}
use mathlib.Core.Path.{◌≡◌, refl, sym, ◌∙◌}
use mathlib.Core.Bool.{true, false, not, ◌&&◌, or-true, and-false, or-false}
use mathlib.Core.List.Memᴰ
use mathlib.Core.List.{List, [], ◌∷◌, ◌++◌, Memᴰ}
use mathlib.Core.Logic.{◌⊎◌, inl, inr}
use native.Mathlib.Omega.{arith}
use native.Mathlib.Decide.{ℕ_discrete}
use lib.Dec.{eqb}
use borrow.Author.Tests.{eqb-true, not-true, eq-eqb, ne_eqb}
use native.Mathlib.Numerals.{add-one}
use lib.ListN.{length, take, set, length-set}
use lib.Seq.{take_at, take_all, take-suc-set, length-take-le}
use Rattle.record.specs.Node.{nodes_of, is_internal}
use Rattle.record.proofs.Basics.{both_true}
use Rattle.forest.specs.Graph.{at}
use Rattle.forest.specs.Lists.{has}
use Rattle.forest.specs.Order.{ready}
use Rattle.claims.specs.Distinct.{distinct_snoc}
use Rattle.claims.specs.Searches.{not_in}
use Rattle.dense_order.specs.Mentions.{left}
use Rattle.ready.specs.Tree.{member, Changed}
use Rattle.dense_order.specs.State.{Counts, Stands, Standing, Appends}
use Rattle.dense_order.proofs.Linking.{has_snoc, ready_left}

module _ {s hs ls cs rs rs₁ : List ℕ} (w : List ℕ) {n filled p : ℕ} (a : Standing s (take filled w) hs ls cs rs n filled) (l : length w ≡ n) (h : p < n) (k : filled < n)
    (r : ready (nodes_of s) (take filled w) p ≡ true) (c : Changed false rs rs₁ n p) where
  abbrev o : List ℕ
  o = take filled w

  abbrev w₂ : List ℕ
  w₂ = set w filled p

  length_o : length o ≡ filled
  length_o = length-take-le filled w (omega arith)

  settled_all : take filled o ≡ o
  settled_all = take_all filled o (let z = length_o in omega arith)

  pub order_now : take (filled + 1) w₂ ≡ o ++ p ∷ []
  order_now = rw add-one (take-suc-set w filled p (omega arith))

  ready_parts : (is_internal (at (nodes_of s) p) ≡ true) × (has p o ≡ false) × (left (nodes_of s) p o ≡ 0)
  ready_parts =
      let e : (is_internal (at (nodes_of s) p) && (not (has p o) && eqb (left (nodes_of s) p o) 0)) ≡ true = sym (ready_left (nodes_of s) o p) ∙ r in
      let (x, yz) = both_true (is_internal (at (nodes_of s) p)) _ e in
      let (y, z) = both_true (not (has p o)) _ yz in
      (x, not-true _ y, eqb-true _ _ z)

  old : Stands s hs ls cs rs n o o
  old = rw settled_all at a.stands

  counts_now : Counts (nodes_of s) cs rs₁ n (o ++ p ∷ []) (λ j. left (nodes_of s) j o)
  counts_now = record { long = old.counts.long; counts = old.counts.counts; tree = c.tree; members = λ j q. joined j q (ℕ_discrete j p) }
    where
      joined : (j : ℕ) → j < n → Dec (j ≡ p) → member rs₁ n j ≡ (is_internal (at (nodes_of s) j) && (not (has j (o ++ p ∷ [])) && eqb (left (nodes_of s) j o) 0))
      joined j q (yes e) = rw e (c.changed ∙ rw (has_snoc p p o, eq-eqb p p refl, or-true (has p o)) (sym (and-false (is_internal (at (nodes_of s) p)))))
      joined j q (no d) = c.others j q d ∙ (old.counts.members j q ∙ rw (has_snoc j p o, ne_eqb j p d, or-false (has j o)))

  stands_now : Stands s hs ls cs rs₁ n (o ++ p ∷ []) o
  stands_now = record {
    chained = old.chained;
    distinct = distinct_snoc p old.distinct (not_in p o ready_parts.1);
    below = λ x m. under x (Memᴰ.append_cases o m);
    closed = λ x m i. shut x i (Memᴰ.append_cases o m);
    counts = counts_now;
  }
    where
      under : (x : ℕ) → Memᴰ x o ⊎ Memᴰ x (p ∷ []) → x < n
      under x (inl m) = old.below x m
      under x (inr m) = rw (Memᴰ.eq_of_singleton m) h

      shut : (x : ℕ) → is_internal (at (nodes_of s) x) ≡ true → Memᴰ x o ⊎ Memᴰ x (p ∷ []) → left (nodes_of s) x o ≡ 0
      shut x i (inl m) = old.closed x m i
      shut x i (inr m) = rw (Memᴰ.eq_of_singleton m) ready_parts.2

  pub standing_now : Standing s (take (filled + 1) w₂) hs ls cs rs₁ n filled
  standing_now =
      let z : length (take (filled + 1) w₂) ≡ filled + 1 = length-take-le (filled + 1) w₂ (simp length-set (omega arith)) in
      record {
        upto = omega arith;
        some = omega arith;
        stands = rw (order_now, take_at o (p ∷ []) filled length_o) stands_now;
      }

pub appends : {s w hs ls cs rs rs₁ cs₂ rs₂ : List ℕ} {n filled p : ℕ} → Standing s (take filled w) hs ls cs rs n filled → length w ≡ n → p < n → filled < n → ready (nodes_of s) (take filled w) p ≡ true
    → Changed false rs rs₁ n p → Standing s (take (filled + 1) (set w filled p)) hs ls cs₂ rs₂ n (filled + 1) → Appends s w (set w filled p) hs ls cs₂ rs₂ n filled p
appends {w = w} a l h k r c t = record { standing = t; order = order_now w a l h k r c }
