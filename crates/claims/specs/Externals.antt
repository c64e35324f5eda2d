-- Canonicalize's externals: sorted by digest, and no digest twice exactly if no neighbours are alike.
-- Assumes nothing.
use Rattle.std.specs.Prelude.{ℕ, ◌≡◌, Bool, Some, None}
use Rattle.std.proofs.Math.Path.{refl}
use Rattle.std.proofs.Common.{sym, ◌∙◌}
use Rattle.std.proofs.Math.Bool.{true, false}
use mathlib.Core.List.{List, [], ◌∷◌, Memᴰ}
use Rattle.record.specs.Lists.{same}
use Rattle.record.specs.declared.Node.{Node}
use Rattle.record.proofs.Basics.{clash, same_eq, same_refl}
use Rattle.record.proofs.Orders.{before_irrefl, before_trans, before_asym, before_total}
use Rattle.forest.specs.Graph.{at}
use Rattle.forest.specs.Order.{lower, externals, repeat}
use Rattle.claims.specs.Distinct.{Distinct, fresh}
use Rattle.claims.specs.Sorts.{Linked, linked_nil, linked_one, linked, linked_rest, sort_sorted}

module _ (g : List Node) where
  -- sorted, and no two neighbours alike: each goes before the next
  strict : {l : List ℕ} → Linked (λ p q. lower g q p ≡ false) l → repeat g l ≡ None → Linked (λ p q. lower g p q ≡ true) l
  unfolding repeat lower
  strict linked_nil e = linked_nil
  strict linked_one e = linked_one
  strict (linked {x = p} {y = q} {l = l} r s) e = go (same (at g p).digest (at g q).digest) refl (strict s)
    where
      up : (b : Bool) → lower g p q ≡ b → same (at g p).digest (at g q).digest ≡ false → lower g p q ≡ true
      up true h f = h
      up false h f = absurd (clash (let z = same_refl (at g p).digest in let y = before_total (at g p).digest (at g q).digest h r in cc))

      go : (b : Bool) → same (at g p).digest (at g q).digest ≡ b → (repeat g (q ∷ l) ≡ None → Linked (λ p q. lower g p q ≡ true) (q ∷ l)) → Linked (λ p q. lower g p q ≡ true) (p ∷ q ∷ l)
      go true h ih = absurd (clash (let z : Some q ≡ None = rw (h, repeat) at e in cc))
      go false h ih = linked (up (lower g p q) refl h) (ih (rw (h, repeat) at e))

  -- then each goes before all that follow
  ahead : (x : ℕ) (l : List ℕ) → Linked (λ p q. lower g p q ≡ true) (x ∷ l) → (y : ℕ) → Memᴰ y l → lower g x y ≡ true
  unfolding lower
  ahead x [] _ y x5 = elim x5 [ ]
  ahead x (z ∷ l) (linked r s) y (Memᴰ.head e) = rw e r
  ahead x (z ∷ l) (linked r s) y (Memᴰ.tail m) = before_trans (at g x).digest (at g z).digest (at g y).digest r (ahead z l s y m)

  not_lower : (p q : ℕ) → (at g p).digest ≡ (at g q).digest → lower g p q ≡ true → ⊥
  unfolding lower
  not_lower p q e h = clash (let z = before_irrefl (at g q).digest in cc)

  pub apart : (l : List ℕ) → Linked (λ p q. lower g p q ≡ true) l → (p q : ℕ) → Memᴰ p l → Memᴰ q l → (at g p).digest ≡ (at g q).digest → p ≡ q
  apart [] s p q x4 _ e = elim x4 [ ]
  apart (x ∷ l) s p q (Memᴰ.head a) (Memᴰ.head b) e = a ∙ sym b
  apart (x ∷ l) s p q (Memᴰ.head a) (Memᴰ.tail n) e = absurd (not_lower p q e (rw a (ahead x l s q n)))
  apart (x ∷ l) s p q (Memᴰ.tail m) (Memᴰ.head b) e = absurd (not_lower q p (sym e) (rw b (ahead x l s p m)))
  apart (x ∷ l) s p q (Memᴰ.tail m) (Memᴰ.tail n) e = apart l (linked_rest s) p q m n e

  externals_sorted : Linked (λ p q. lower g q p ≡ false) (externals g)
  unfolding externals lower
  externals_sorted = sort_sorted _ (λ p q. before_asym (at g p).digest (at g q).digest) _

  pub externals_strict : repeat g (externals g) ≡ None → Linked (λ p q. lower g p q ≡ true) (externals g)
  externals_strict e = strict externals_sorted e

  pub repeat_none : (l : List ℕ) → Distinct l → ((p q : ℕ) → Memᴰ p l → Memᴰ q l → (at g p).digest ≡ (at g q).digest → p ≡ q) → repeat g l ≡ None
  unfolding repeat
  repeat_none [] d h = refl
  repeat_none (p ∷ []) d h = refl
  repeat_none (p ∷ q ∷ l) (fresh f d) h = go (same (at g p).digest (at g q).digest) refl (repeat_none (q ∷ l) d (λ x y m n. h x y (Memᴰ.tail m) (Memᴰ.tail n)))
    where
      go : (b : Bool) → same (at g p).digest (at g q).digest ≡ b → repeat g (q ∷ l) ≡ None → repeat g (p ∷ q ∷ l) ≡ None
      go true t ih = absurd (f (Memᴰ.head (h p q (Memᴰ.head refl) (Memᴰ.tail (Memᴰ.head refl)) (same_eq _ _ t))))
      go false t ih = rw (t, repeat) ih
