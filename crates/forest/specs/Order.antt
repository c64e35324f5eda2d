-- Document 01, Canonicalize: the order of a forest's nodes, and the nodes in that order.
-- Assumes nothing: these are definitions.
use Rattle.std.specs.Prelude.{ℕ, zero, suc, Bool, true, false, not, ◌&&◌, List, [], ◌∷◌, ◌++◌, map, eqb, length, Option, Some, None}
use Rattle.record.specs.Lists.{same, run, all}
use Rattle.record.specs.Order.{before}
use Rattle.record.specs.Node.{is_external, is_block, is_internal, children, renumber}
use Rattle.record.specs.declared.Node.{Node}
use Rattle.forest.specs.Lists.{has, keep, lowest, sort}
use Rattle.forest.specs.Graph.{at}
use Rattle.forest.specs.Walk.{or_none}

-- all ids of a forest
unfoldable pub ids : List Node → List ℕ
ids g = run 0 (length g)

-- one node's digest goes before another's
unfoldable pub lower : List Node → ℕ → ℕ → Bool
lower g p q = before (at g p).digest (at g q).digest

-- externals by digest, those of one digest by id
unfoldable pub externals : List Node → List ℕ
externals g = sort (lower g) (keep (λ p. is_external (at g p)) (ids g))

-- blocks by id
unfoldable pub blocks : List Node → List ℕ
blocks g = keep (λ p. is_block (at g p)) (ids g)

-- an internal that is not in the order o yet, and whose children all are
unfoldable pub ready : List Node → List ℕ → ℕ → Bool
ready g o p = is_internal (at g p) && (not (has p o) && all (λ c. has c o) (children (at g p)))

-- what is released after the order o, at most n: always the lowest internal that is ready
unfoldable pub released : List Node → ℕ → List ℕ → List ℕ
released g zero o = []
released g (suc n) o = elim (lowest (ready g o) (ids g)) [ None ↦ [] | Some p ↦ p ∷ released g n (o ++ p ∷ []) ]

-- what stands in the order before any internal
unfoldable pub begun : List Node → List ℕ
begun g = externals g ++ blocks g

-- the order: externals, blocks, then internals as they are released
unfoldable pub order : List Node → List ℕ
order g = begun g ++ released g (length g) (begun g)

-- the lowest id that is never released
unfoldable pub unreleased : List Node → Option ℕ
unreleased g = lowest (λ p. not (has p (order g))) (ids g)

-- the second of the first two neighbours of one digest
unfoldable pub repeat : List Node → List ℕ → Option ℕ
repeat g [] = None
repeat g (p ∷ []) = None
repeat g (p ∷ q ∷ o) = elim (same (at g p).digest (at g q).digest) [ true ↦ Some q | false ↦ repeat g (q ∷ o) ]

-- the new id of a node: its place in the order
unfoldable pub place_in : List ℕ → ℕ → ℕ
place_in o p = or_none (lowest (eqb p) o)

-- the nodes in the order, with new ids for children
unfoldable pub arranged : List Node → List ℕ → List Node
arranged g o = map (λ p. renumber (place_in o) (at g p)) o
