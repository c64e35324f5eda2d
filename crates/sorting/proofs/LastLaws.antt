-- The last element that passes a test: in a list of two parts, in a sorted list, and as the highest place.
-- Assumes nothing.
use Prim.Native.Nat.{ℕ, zero, suc}
use mathlib.Core.Path.{◌≡◌, refl, sym, ◌∙◌, ap}
use mathlib.Core.Bool.{Bool, true, false, ◌&&◌, true≢false}
use mathlib.Core.List.{List, [], ◌∷◌, ◌++◌}
use Rattle.std.specs.Prelude.{Option, Some, None}
use lib.ListN.{length, get_or}
use Rattle.record.specs.Lists.{run}
use Rattle.forest.specs.Lists.{keep, there_or, highest, later, last_of, insert, sort}
use Rattle.sorting.specs.Sorted.{All, all_nil, all_cons}
use Rattle.sorting.proofs.SortLaws.{into, into_front, into_behind}

module _ (t : ℕ → Bool) where
  pub last_none : {l : List ℕ} → All (λ z. t z ≡ false) l → last_of t l ≡ None
  unfolding last_of later
  last_none all_nil = refl
  last_none (all_cons e a) = rw (e, last_none a)

  -- what fails in the second part is of no account
  pub last_left : (a : List ℕ) {b : List ℕ} → All (λ z. t z ≡ false) b → last_of t (a ++ b) ≡ last_of t a
  unfolding last_of
  last_left [] q = last_none q
  last_left (x ∷ a) q = rw (last_left a q)

  pub last_hit : (a : List ℕ) (x : ℕ) → t x ≡ true → last_of t (a ++ x ∷ []) ≡ Some x
  unfolding last_of later
  last_hit [] x e = rw e
  last_hit (y ∷ a) x e = rw (last_hit a x e)

  -- a stable sort does not change which is the last of those that stand alike
  module _ (less : ℕ → ℕ → Bool) (alike : (x y : ℕ) → t x ≡ true → t y ≡ true → less x y ≡ false) where
    swap : (b c : Bool) (x y : ℕ) (o : Option ℕ) → t x ≡ b → t y ≡ c → less y x ≡ true → later (t y) y (later (t x) x o) ≡ later (t x) x (later (t y) y o)
    unfolding later
    swap b c x y (Some z) p q e = refl
    swap true true x y None p q e = absurd (true≢false (sym e ∙ alike y x q p))
    swap true false x y None p q e = rw (p, q)
    swap false true x y None p q e = rw (p, q)
    swap false false x y None p q e = rw (p, q)

    last_into : (x : ℕ) (l : List ℕ) → last_of t (into less x l) ≡ later (t x) x (last_of t l)
    unfolding last_of insert
    last_into x [] = refl
    last_into x (y ∷ l) = go (less y x) refl (last_into x l)
      where
        go : (b : Bool) → less y x ≡ b → last_of t (into less x l) ≡ later (t x) x (last_of t l) → last_of t (into less x (y ∷ l)) ≡ later (t x) x (later (t y) y (last_of t l))
        go true e ih = rw (into_behind less x y l e) (ap (λ (o : Option ℕ). later (t y) y o) ih ∙ swap (t x) (t y) x y (last_of t l) refl refl e)
        go false e ih = rw (into_front less x y l e)

    pub last_sort : (l : List ℕ) → last_of t (sort less l) ≡ last_of t l
    unfolding last_of sort
    last_sort [] = refl
    last_sort (x ∷ l) = last_into x (sort less l) ∙ ap (λ (o : Option ℕ). later (t x) x o) (last_sort l)

-- the last of those kept that passes is the last that passes both tests
pub last_keep : (t u : ℕ → Bool) (l : List ℕ) → last_of t (keep u l) ≡ last_of (λ x. u x && t x) l
unfolding last_of keep later
last_keep t u [] = refl
last_keep t u (x ∷ l) = go (u x) refl (last_keep t u l)
  where
    none_later : (o : Option ℕ) → o ≡ later false x o
    none_later None = refl
    none_later (Some y) = refl

    go : (b : Bool) → u x ≡ b → last_of t (keep u l) ≡ last_of (λ x. u x && t x) l → last_of t (keep u (x ∷ l)) ≡ later (u x && t x) x (last_of (λ x. u x && t x) l)
    go true e ih = rw (e, keep) (ap (λ (o : Option ℕ). later (t x) x o) ih)
    go false e ih = rw (e, keep) (ih ∙ none_later (last_of (λ x. u x && t x) l))

abbrev up : Option ℕ → Option ℕ
up None = None
up (Some i) = Some (suc i)

last_up : (t : ℕ → Bool) (a n : ℕ) → last_of t (run (suc a) n) ≡ up (last_of (λ p. t (suc p)) (run a n))
unfolding last_of run later
last_up t a zero = refl
last_up t a (suc n) = rw (last_up t (suc a) n) (go (t (suc a)) (last_of (λ p. t (suc p)) (run (suc a) n)))
  where
    go : (b : Bool) (o : Option ℕ) → later b (suc a) (up o) ≡ up (later b a o)
    go b (Some i) = refl
    go true None = refl
    go false None = refl

-- the highest place that passes is the last of all places that does
pub highest_last : {A : Type 0} (d : A) (t : A → Bool) (l : List A) → highest t l ≡ last_of (λ p. t (get_or l p d)) (run 0 (length l))
unfolding last_of run later highest there_or
highest_last d t [] = refl
highest_last d t (x ∷ l) = rw (highest_last d t l) (go (t x) (last_of (λ p. t (get_or l p d)) (run 0 (length l))) (last_up (λ p. t (get_or (x ∷ l) p d)) 0 (length l)))
  where
    go : (b : Bool) (o : Option ℕ) → last_of (λ p. t (get_or (x ∷ l) p d)) (run 1 (length l)) ≡ up o → there_or b o ≡ later b 0 (last_of (λ p. t (get_or (x ∷ l) p d)) (run 1 (length l)))
    go b (Some i) e = rw e
    go true None e = rw e
    go false None e = rw e
