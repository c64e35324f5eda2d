-- Who names whom: a mention is a child field of a node, numbered over all nodes; the mentions of one child are linked, the latest first.
-- Assumes nothing: these are definitions.
use Rattle.std.specs.Prelude.{ℕ, zero, suc, ◌+◌, ◌/◌, ◌%◌, Bool, true, false, not, ◌&&◌, List, ltb, eqb, length, get_or}
use Rattle.record.specs.Node.{fields, children}
use Rattle.record.specs.declared.Node.{Node}
use Rattle.forest.specs.Lists.{has, keep}
use Rattle.forest.specs.Graph.{at}

-- the children of the node that makes mention e
unfoldable pub namer : List Node → ℕ → List ℕ
namer g e = children (at g (e / fields))

-- mention e names the child c
unfoldable pub names : List Node → ℕ → ℕ → Bool
names g c e = ltb (e % fields) (length (namer g e)) && eqb (get_or (namer g e) (e % fields) 0) c

-- 1 more than the highest mention below k that names c, or 0
unfoldable pub prior : List Node → ℕ → ℕ → ℕ
prior g c zero = 0
prior g c (suc k) = elim (names g c k) [ true ↦ suc k | false ↦ prior g c k ]

unfoldable pub one : Bool → ℕ
one true = 1
one false = 0

-- how many of the mentions below k are made by p and name c
unfoldable pub still : List Node → ℕ → ℕ → ℕ → ℕ
still g c zero p = 0
still g c (suc k) p = one (names g c k && eqb (k / fields) p) + still g c k p

-- how many of p's children, repeats counted, are not settled
unfoldable pub left : List Node → ℕ → List ℕ → ℕ
left g p settled = length (keep (λ c. not (has c settled)) (children (at g p)))
