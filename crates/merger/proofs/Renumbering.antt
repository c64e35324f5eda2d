-- Renumbering a node's children twice.
-- Assumes nothing.
use Prim.Native.Nat.{ℕ, zero, suc}
use mathlib.Core.Path.{◌≡◌, refl, ap}
use mathlib.Core.List.{List, [], ◌∷◌, ◌++◌, map}
use lib.ListN.{take, drop}
use Rattle.record.specs.Node.{children, renumber}
use Rattle.record.specs.declared.Node.{Node}

pub renumber_twice : (f h : ℕ → ℕ) (n : Node) → renumber f (renumber h n) ≡ renumber (λ c. f (h c)) n
unfolding renumber children
renumber_twice f h n = rw (go n.count n.kids) refl
  where
    go : (c : ℕ) (l : List ℕ) → map f (take c (map h (take c l) ++ drop c l)) ++ drop c (map h (take c l) ++ drop c l) ≡ map (λ x. f (h x)) (take c l) ++ drop c l
    go zero l = refl
    go (suc c) [] = refl
    go (suc c) (x ∷ l) = ap {B = List ℕ} (λ k. f (h x) ∷ k) (go c l)
