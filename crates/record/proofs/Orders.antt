-- The digest order is the library's order of lists, and so has its laws: all else goes by them.
-- Assumes nothing.
use Prim.Native.Nat.{ℕ}
use mathlib.Core.Path.{◌≡◌, refl, sym, ◌∙◌}
use mathlib.Core.Bool.{true, false, true≢false}
use mathlib.Core.List.{List, [], ◌∷◌}
use mathlib.Core.Logic.{◌⊎◌, inl, inr}
use native.Mathlib.Omega.{arith}
use lib.Dec.{ltb}
use Rattle.std.specs.Cmp.Lexicographic.{slice_cmp}
use Rattle.std.specs.Ordering.{nat_cmp, ordering_then, ordering_reverse}
use Rattle.std.specs.declared.cmp.Ordering.{Ordering}
use Rattle.std.specs.declared.cmp.Ordering.TheVariants.{Less, Equal, Greater}
use Rattle.std.proofs.lemmas.Cmp.{nat_list_cmp_total, tied_itself}
use Rattle.std.proofs.lemmas.Bool.Decides.{nat_tests}
use Rattle.std.proofs.lemmas.Map.Lookups.{exact_bytes}
use Rattle.record.specs.Order.{deciding, decided, lex, compared, is_less, before}

heads : (x y : ℕ) (o : Ordering) → decided (ltb x y) (ltb y x) o ≡ ordering_then (nat_cmp x y) o
unfolding decided
heads x y o = grind (arith, nat_tests)

lex_cmp : (a b : List ℕ) → lex a b ≡ slice_cmp nat_cmp a b
unfolding lex
lex_cmp [] [] = refl
lex_cmp [] (y ∷ b) = refl
lex_cmp (x ∷ a) [] = refl
lex_cmp (x ∷ a) (y ∷ b) = rw (lex_cmp a b) (heads x y (slice_cmp nat_cmp a b))

pub compared_cmp : (a b : List ℕ) → compared a b ≡ slice_cmp nat_cmp a b
unfolding compared deciding
compared_cmp a b = lex_cmp a b

-- a digest is equal to itself, and to no other
pub compared_refl : (a : List ℕ) → compared a a ≡ Equal
compared_refl a = compared_cmp a a ∙ tied_itself nat_list_cmp_total a

pub compared_same : (a b : List ℕ) → compared a b ≡ Equal → a ≡ b
compared_same a b e = exact_bytes a b (sym (compared_cmp a b) ∙ e)

compared_turned : (a b : List ℕ) → compared b a ≡ ordering_reverse (compared a b)
compared_turned a b = rw (compared_cmp a b, compared_cmp b a) (nat_list_cmp_total.antisymm b a)

is_less_lem : (o : Ordering) → is_less o ≡ true → o ≡ Less
unfolding is_less
is_less_lem Less e = refl
is_less_lem Equal e = absurd (true≢false (sym e))
is_less_lem Greater e = absurd (true≢false (sym e))

compared_less : (a b : List ℕ) → before a b ≡ true → compared a b ≡ Less
unfolding before
compared_less a b e = is_less_lem (compared a b) e

pub before_irrefl : (a : List ℕ) → before a a ≡ false
unfolding before is_less
before_irrefl a = rw (compared_refl a)

pub before_trans : (a b c : List ℕ) → before a b ≡ true → before b c ≡ true → before a c ≡ true
unfolding before is_less
before_trans a b c p q =
    rw (compared_cmp a c, nat_list_cmp_total.trans a b c (sym (compared_cmp a b) ∙ compared_less a b p) (sym (compared_cmp b c) ∙ compared_less b c q))

pub before_asym : (a b : List ℕ) → before a b ≡ true → before b a ≡ false
unfolding before is_less
before_asym a b e = rw (compared_turned a b, compared_less a b e)

-- of two digests one goes before the other, or they are one
pub trichotomy : (a b : List ℕ) → (before a b ≡ true) ⊎ ((a ≡ b) ⊎ (before b a ≡ true))
unfolding before is_less
trichotomy a b = go (compared a b) refl
  where
    go : (o : Ordering) → compared a b ≡ o → (before a b ≡ true) ⊎ ((a ≡ b) ⊎ (before b a ≡ true))
    go Less e = inl (rw e refl)
    go Equal e = inr (inl (compared_same a b e))
    go Greater e = inr (inr (rw (compared_turned a b, e) refl))

pub before_total : (a b : List ℕ) → before a b ≡ false → before b a ≡ false → a ≡ b
before_total a b p q = go (trichotomy a b)
  where
    go : (before a b ≡ true) ⊎ ((a ≡ b) ⊎ (before b a ≡ true)) → a ≡ b
    go (inl e) = absurd (true≢false (sym e ∙ p))
    go (inr (inl e)) = e
    go (inr (inr e)) = absurd (true≢false (sym e ∙ q))
