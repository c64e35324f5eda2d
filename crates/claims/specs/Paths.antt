-- Demand 3's words: steps, paths from a root and cycles, from child references and step 1 alone, without the walk.
-- Assumes nothing: these are definitions.
use Rattle.std.specs.Prelude.{ℕ, ◌<◌, ◌≡◌, true, length, Some}
use mathlib.Core.List.{List, [], ◌∷◌, Memᴰ}
use Rattle.record.specs.Node.{is_external, children}
use Rattle.record.specs.declared.Node.{Node}
use Rattle.forest.specs.Graph.{at, replaced_by}
use Rattle.claims.specs.Distinct.{Distinct}

-- q is a child of p
abbrev pub HasChild : List Node → ℕ → ℕ → Type 0
HasChild g p q = Memᴰ q (children (at g p))

-- q is a child of p, or the external p is replaced by q
pub data Step (g : List Node) (p q : ℕ) : Type 0 where
  child : HasChild g p q → Step g p q
  replaced : replaced_by g p ≡ Some q → Step g p q

-- one or more steps of R from p to the last
pub data Steps (R : ℕ → ℕ → Type 0) (p : ℕ) : ℕ → Type 0 where
  one : {q : ℕ} → R p q → Steps R p q
  more : {q r : ℕ} → Steps R p q → R q r → Steps R p r

-- a path from a root by steps of R, its last node first
pub data Path (R : ℕ → ℕ → Type 0) (roots : List ℕ) : List ℕ → Type 0 where
  root : {r : ℕ} → Memᴰ r roots → Path R roots (r ∷ [])
  onto : {p q : ℕ} {l : List ℕ} → Path R roots (p ∷ l) → R p q → Path R roots (q ∷ p ∷ l)

-- a path from a root leads to p
pub record Reached (g : List Node) (roots : List ℕ) (p : ℕ) : Type 0 where
  pub way : List ℕ
  pub path : Path (Step g) roots (p ∷ way)

-- a cycle can be reached from some root: one or more steps from a node back to itself
pub record CycleReached (g : List Node) (roots : List ℕ) : Type 0 where
  pub on : ℕ
  pub reached : Reached g roots on
  pub back : Steps (Step g) on on

-- a path from a root holds more than d distinct nodes
pub record LongPath (g : List Node) (roots : List ℕ) (d : ℕ) : Type 0 where
  pub way : List ℕ
  pub path : Path (Step g) roots way
  pub some_of : List ℕ
  pub distinct : Distinct some_of
  pub held : (p : ℕ) → Memᴰ p some_of → Memᴰ p way
  pub more : d < length some_of

-- what Canonicalize can order: external digests differ, children are in range, no cycle runs through children
pub record Orderly (g : List Node) : Type 0 where
  pub differ : (p q : ℕ) → p < length g → q < length g → is_external (at g p) ≡ true → is_external (at g q) ≡ true → (at g p).digest ≡ (at g q).digest → p ≡ q
  pub inside : (p c : ℕ) → HasChild g p c → c < length g
  pub acyclic : (p : ℕ) → ¬ Steps (HasChild g) p p
