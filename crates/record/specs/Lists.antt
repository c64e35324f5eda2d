-- Lists of any elements: nothing here knows of bytes or nodes.
-- Assumes nothing: these are definitions.
use Rattle.std.specs.Prelude.{ℕ, zero, suc, ◌+◌, Bool, true, false, ◌&&◌, List, [], ◌∷◌, ◌++◌, eqb, length, take, drop}

-- two lists of numbers hold the same
unfoldable pub same : List ℕ → List ℕ → Bool
same [] [] = true
same [] (b ∷ vs) = false
same (a ∷ us) [] = false
same (a ∷ us) (b ∷ vs) = eqb a b && same us vs

-- the n numbers from a on
unfoldable pub run : ℕ → ℕ → List ℕ
run a zero = []
run a (suc n) = a ∷ run (suc a) n

module _ {A : Type 0} where
  -- the test passes at each element
  unfoldable pub all : (A → Bool) → List A → Bool
  all t [] = true
  all t (x ∷ xs) = t x && all t xs

  -- the list with new written over it from place at on
  unfoldable pub over : List A → ℕ → List A → List A
  over l at new = take at l ++ (new ++ drop (at + length new) l)

module _ {A B : Type 0} where
  -- the lists that f makes, one after the other
  unfoldable pub flat : (A → List B) → List A → List B
  flat f [] = []
  flat f (x ∷ xs) = f x ++ flat f xs
