-- Document 01, Merge, steps 2 and 3: the walk, which merges each node as it finishes.
-- Assumes nothing: these are definitions.
use Rattle.std.specs.Prelude.{ℕ, zero, suc, Bool, true, false, List, [], ◌∷◌, ◌++◌, eqb, length, Option, Some, None}
use Rattle.record.specs.Node.{renumber, same_node}
use Rattle.record.specs.declared.Node.{Node}
use Rattle.forest.specs.Lists.{has, lowest}
use Rattle.forest.specs.Lent.{no_id}
use Rattle.forest.specs.Graph.{at, next, replaced_by}

-- the finished positions with their new ids, the latest first, and the merged nodes in the order in which they were appended
pub record State : Type 0 where
  pub done : List (ℕ × ℕ)
  pub merged : List Node

unfoldable pub start : State
start = record { done = []; merged = [] }

-- the walk goes on, or has met the open node p again, or was to open p where as many nodes as the limit are open
pub data Walked : Type 0 where
  going : State → Walked
  cycle deep : ℕ → Walked

-- the new id of p, if it is finished
unfoldable pub id_in : List (ℕ × ℕ) → ℕ → Option ℕ
id_in [] p = None
id_in (e ∷ es) p = elim (eqb p e.0) [ true ↦ Some e.1 | false ↦ id_in es p ]

unfoldable pub or_none : Option ℕ → ℕ
or_none None = no_id
or_none (Some i) = i

-- the new id of p, or the mark for none
unfoldable pub id_of : State → ℕ → ℕ
id_of s p = or_none (id_in s.done p)

pub data Mark : Type 0 where
  finished opened unseen : Mark

unfoldable pub marked : Option ℕ → Bool → Mark
marked (Some i) b = finished
marked None true = opened
marked None false = unseen

-- what p is, with the nodes of `path` open: finished if it has an id, else open if it is on the path
unfoldable pub mark : List ℕ → State → ℕ → Mark
mark path s p = marked (id_in s.done p) (has p path)

-- p is finished with the id i
unfoldable pub ended : ℕ → ℕ → State → State
ended p i s = record { done = (p, i) ∷ s.done; merged = s.merged }

-- p is finished as the merged node n: with the id of an equal earlier one, else appended
unfoldable pub push : ℕ → Node → State → State
push p n s = elim (lowest (same_node n) s.merged) [ Some i ↦ ended p i s | None ↦ ended p (length s.merged) (record { done = s.done; merged = s.merged ++ n ∷ [] }) ]

-- step 3: a replaced external takes its replacement's id, any other node is merged with its children renumbered
unfoldable pub finish : List Node → ℕ → State → State
finish g p s = elim (replaced_by g p) [ Some q ↦ ended p (id_of s q) s | None ↦ push p (renumber (id_of s) (at g p)) s ]

-- go on with f, unless the walk has stopped
unfoldable pub onward : Walked → (State → Walked) → Walked
onward (going s) f = f s
onward (cycle p) f = cycle p
onward (deep p) f = deep p

-- take one after the other
unfoldable pub each : (ℕ → State → Walked) → List ℕ → State → Walked
each f [] s = going s
each f (p ∷ ps) s = onward (f p s) (λ t. each f ps t)

-- pass over a finished node, stop at an open one, do f with an unseen one
unfoldable pub enter : Mark → ℕ → State → (State → Walked) → Walked
enter finished p s f = going s
enter opened p s f = cycle p
enter unseen p s f = f s

-- step 2: take p, with the nodes of `path` open and room for d more
unfoldable pub visit : List Node → ℕ → List ℕ → ℕ → State → Walked
visit g zero path p s = enter (mark path s p) p s (λ t. deep p)
visit g (suc d) path p s = enter (mark path s p) p s (λ t. onward (each (visit g d (p ∷ path)) (next g p) t) (λ u. going (finish g p u)))

-- all roots in their order
unfoldable pub walk : List Node → ℕ → List ℕ → Walked
walk g limit roots = each (visit g limit []) roots start
