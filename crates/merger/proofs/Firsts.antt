-- Laws of first mentions, and of the word that says whether a number is listed.
-- Assumes nothing.
use Prim.Native.Nat.{ℕ}
use mathlib.Core.Path.{◌≡◌, refl, ap}
use mathlib.Core.Bool.{Bool, true, false, ◌||◌}
use mathlib.Core.List.{List, [], ◌∷◌, ◌++◌}
use mathlib.Core.Logic.{◌≢◌}
use lib.Dec.{eqb}
use Rattle.record.proofs.Basics.{clash}
use Rattle.forest.specs.Lists.{has, firsts}

-- first mentions depend on what was seen, not on its order
pub firsts_same : (a b l : List ℕ) → ((x : ℕ) → has x a ≡ has x b) → firsts a l ≡ firsts b l
unfolding firsts has
firsts_same a b [] h = refl
firsts_same a b (p ∷ l) h = go (has p b) refl (firsts_same a b l h) (firsts_same (p ∷ a) (p ∷ b) l (λ x. ap (λ (t : Bool). eqb x p || t) (h x)))
  where
    go : (t : Bool) → has p b ≡ t → firsts a l ≡ firsts b l → firsts (p ∷ a) l ≡ firsts (p ∷ b) l → firsts a (p ∷ l) ≡ firsts b (p ∷ l)
    go true e one two = rw (h p, e, firsts) one
    go false e one two = rw (h p, e, firsts) (ap {B = List ℕ} (λ k. p ∷ k) two)

pub has_snoc : (x y : ℕ) (l : List ℕ) → has x (l ++ y ∷ []) ≡ has x (y ∷ l)
unfolding has
has_snoc x y [] = refl
has_snoc x y (z ∷ l) = rw (has_snoc x y l) (swap (eqb x z) (eqb x y))
  where
    swap : (a b : Bool) → (a || (b || has x l)) ≡ (b || (a || has x l))
    swap true true = refl
    swap true false = refl
    swap false true = refl
    swap false false = refl

-- the word that says whether an id is listed
abbrev pub bit : Bool → ℕ
bit true = 1
bit false = 0

pub bit_true : (b : Bool) → bit b ≡ 1 → b ≡ true
bit_true true e = refl
bit_true false e = absurd (clash e)

pub bit_false : (b : Bool) → bit b ≢ 1 → b ≡ false
bit_false true d = absurd (d refl)
bit_false false d = refl
