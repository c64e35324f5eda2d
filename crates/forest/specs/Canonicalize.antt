-- Document 01, Canonicalize: one forest in its canonical order.
-- Assumes nothing: these are definitions.
use Rattle.std.specs.Prelude.{ℕ, ◌*◌, ◌/◌, ◌%◌, not, ◌||◌, List, [], ◌∷◌, ◌++◌, map, ltb, eqb, length, Option}
use Rattle.record.specs.Node.{size, nodes_of}
use Rattle.record.specs.declared.Node.{Node}
use Rattle.forest.specs.Lent.{Input, Room, Outcome, Result, work_words, most, when, naming, answered}
use Rattle.forest.specs.Graph.{Forest, far_root, far_child}
use Rattle.forest.specs.Order.{ids, externals, order, unreleased, repeat, place_in, arranged}
use Rattle.forest.specs.Validate.{bad_record}
use Rattle.forest.specs.declared.Reply.{Reply}
use Rattle.forest.specs.declared.Reply.TheVariants.{BadBuffers, TooMany, RootRange, DuplicateExternal, ChildRange, Cycle}

-- the one forest of Canonicalize
unfoldable pub alone : List Node → List ℕ → List Forest
alone g rs = record { base = 0; count = length g; nodes = g; roots = rs } ∷ []

-- RootRange and ChildRange of joined forests
unfoldable pub root_range : List Forest → Option Reply
root_range fs = naming RootRange (far_root fs)

unfoldable pub child_range : List Forest → Option Reply
child_range fs = naming (λ e. ChildRange e.0 e.1) (far_child fs)

-- the checks of sizes, records and roots: 2, 1, 3, 4
unfoldable pub canonicalize_checks : Input → Room → List (Option Reply)
canonicalize_checks i m =
    let n : ℕ = length i.nodes / size in
    when (ltb most n || ltb most (length i.roots)) TooMany
    ∷ when (not (eqb (length i.nodes % size) 0)) (BadBuffers 2)
    ∷ when (not (eqb (length m.nodes) (length i.nodes))) (BadBuffers 4)
    ∷ when (not (eqb (length m.roots) (length i.roots))) (BadBuffers 5)
    ∷ when (not (eqb (length m.ids) n)) (BadBuffers 6)
    ∷ when (ltb (length m.work) (work_words * n)) (BadBuffers 7)
    ∷ bad_record i.nodes
    ∷ root_range (alone (nodes_of i.nodes) i.roots)
    ∷ []

-- what can then keep a forest from being ordered: 5, 6, 7
unfoldable pub disorders : List Node → List (Option Reply)
disorders g =
    naming DuplicateExternal (repeat g (externals g))
    ∷ child_range (alone g [])
    ∷ naming Cycle (unreleased g)
    ∷ []

-- 2, 1, 3, 4, 5, 6, 7
unfoldable pub canonicalize_refusals : Input → Room → List (Option Reply)
canonicalize_refusals i m = canonicalize_checks i m ++ disorders (nodes_of i.nodes)

-- nodes in the order, roots renumbered, and the new id of each node
unfoldable pub canonical : List Node → List ℕ → Result
canonical g rs = record { nodes = arranged g (order g); roots = map (place_in (order g)) rs; ids = map (place_in (order g)) (ids g) }

-- Canonicalize: the table is not lent to it
unfoldable pub canonicalize : Input → Room → Outcome
canonicalize i m = answered m (canonicalize_refusals i m) (canonical (nodes_of i.nodes) i.roots)
