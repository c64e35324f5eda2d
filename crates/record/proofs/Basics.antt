-- Facts about truth values and lists of numbers that every law uses.
-- Assumes nothing.
use Prim.Native.Nat.{ℕ}
use mathlib.Core.Path.{◌≡◌, refl, sym, ◌∙◌}
use mathlib.Core.Bool.{Bool, true, false, ◌&&◌, ◌||◌}
use mathlib.Core.List.{List, [], ◌∷◌}
use native.Mathlib.Omega.{arith}
use lib.Dec.{eqb}
use lib.Pointwise.{pointwise, bytes_decides}
use Rattle.std.proofs.lemmas.Cmp.{nat_list_eq_equiv}
use Rattle.record.specs.Lists.{same}

-- two different constructors that are equated
pub clash : ◌≡◌ {A = ℕ} 0 1 → ⊥
clash e = omega arith

pub both_true : (a b : Bool) → (a && b) ≡ true → (a ≡ true) × (b ≡ true)
both_true true b e = (refl, e)
both_true false b e = (cc, cc)

pub either_false : (a b : Bool) → (a || b) ≡ false → (a ≡ false) × (b ≡ false)
either_false true b e = (cc, cc)
either_false false b e = (refl, e)

-- the test is the library's
pub same_pointwise : (a b : List ℕ) → same a b ≡ pointwise eqb a b
unfolding same
same_pointwise [] [] = refl
same_pointwise [] (b ∷ vs) = refl
same_pointwise (a ∷ us) [] = refl
same_pointwise (a ∷ us) (b ∷ vs) = rw (same_pointwise us vs)

pub same_eq : (a b : List ℕ) → same a b ≡ true → a ≡ b
same_eq a b e = (bytes_decides a b).0 (sym (same_pointwise a b) ∙ e)

pub same_refl : (a : List ℕ) → same a a ≡ true
same_refl a = same_pointwise a a ∙ nat_list_eq_equiv.refl a
