-- Document 01: the forests joined into one graph, its roots, its ranges, and step 1, the replacement.
-- Assumes nothing: these are definitions.
use Rattle.std.specs.Prelude.{ℕ, ◌+◌, true, false, not, ◌&&◌, List, [], ◌∷◌, ◌++◌, map, leb, ltb, take, drop, get_or, replicate, Option, Some, None}
use Rattle.record.specs.Lists.{same, flat}
use Rattle.record.specs.Node.{fields, words, is_external, children, renumber}
use Rattle.record.specs.declared.Node.{Node}
use Rattle.record.specs.declared.Row.{Row}
use Rattle.forest.specs.Lists.{lowest, highest, last_of, first_some}

-- one forest: the position of its first node, how many nodes it has, its nodes and roots with numbers of its own
pub record Forest : Type 0 where
  pub base : ℕ
  pub count : ℕ
  pub nodes : List Node
  pub roots : List ℕ

-- the forests that the table's rows cut out of all nodes and all roots, from position b on
unfoldable pub forests : ℕ → List Row → List Node → List ℕ → List Forest
forests b [] ns rs = []
forests b (r ∷ rest) ns rs = record { base = b; count = r.nodes; nodes = take r.nodes ns; roots = take r.roots rs } ∷ forests (b + r.nodes) rest (drop r.nodes ns) (drop r.roots rs)

-- all nodes, with positions for children
unfoldable pub joined : List Forest → List Node
joined fs = flat (λ f. map (renumber (λ c. f.base + c)) f.nodes) fs

-- all roots, as positions
unfoldable pub joined_roots : List Forest → List ℕ
joined_roots fs = flat (λ f. map (λ r. f.base + r) f.roots) fs

-- the lowest place in the root buffer that names no node of its forest
unfoldable pub far_root : List Forest → Option ℕ
far_root fs = lowest not (flat (λ f. map (λ r. ltb r f.count) f.roots) fs)

-- of a node in a forest of n nodes: the last child past the end
unfoldable pub far_kid : ℕ → Node → Option ℕ
far_kid n m = last_of (leb n) (children m)

-- the first node with a child past its forest's end, and the last such child
unfoldable pub far_child : List Forest → Option (ℕ × ℕ)
far_child fs = first_some 0 (flat (λ f. map (far_kid f.count) f.nodes) fs)

-- what stands where no node is: a block
unfoldable pub no_node : Node
no_node = record { kind = 1; count = 0; kids = replicate fields 0; digest = replicate words 0 }

-- the node at position p
unfoldable pub at : List Node → ℕ → Node
at g p = get_or g p no_node

-- step 1: the highest position with a non-external of this digest
unfoldable pub replacement : List Node → List ℕ → Option ℕ
replacement g d = highest (λ n. not (is_external n) && same d n.digest) g

-- what the node at p is replaced by, if it is an external
unfoldable pub replaced_by : List Node → ℕ → Option ℕ
replaced_by g p = elim (is_external (at g p)) [ true ↦ replacement g (at g p).digest | false ↦ None ]

unfoldable pub listed : Option ℕ → List ℕ
listed None = []
listed (Some q) = q ∷ []

-- where one comes from p: to its children, and from an external to its replacement
unfoldable pub next : List Node → ℕ → List ℕ
next g p = children (at g p) ++ listed (replaced_by g p)
