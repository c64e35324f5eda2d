-- Document 01, Merge: many forests into one.
-- Assumes nothing: these are definitions.
use Rattle.std.specs.Prelude.{ℕ, ◌*◌, ◌/◌, ◌%◌, not, ◌&&◌, ◌||◌, List, [], ◌∷◌, ◌++◌, map, leb, ltb, eqb, length, Option, Some, None}
use Rattle.record.specs.Node.{size, row_size, nodes_of, rows_of}
use Rattle.record.specs.declared.Node.{Node}
use Rattle.forest.specs.Lists.{firsts, sum}
use Rattle.forest.specs.Lent.{Input, Room, Outcome, Result, work_words, most, no_id, when, answered}
use Rattle.forest.specs.Graph.{Forest, forests, joined, joined_roots}
use Rattle.forest.specs.Walk.{State, start, Walked, going, cycle, deep, id_in, walk}
use Rattle.forest.specs.Order.{ids, order, place_in, arranged}
use Rattle.forest.specs.Validate.{bad_record}
use Rattle.forest.specs.Canonicalize.{root_range, child_range}
use Rattle.forest.specs.declared.Reply.{Reply}
use Rattle.forest.specs.declared.Reply.TheVariants.{BadBuffers, TooMany, Cycle, TooDeep, NoRoom, BadLimit}

-- the most forests, and the largest depth limit
abbrev pub most_forests : ℕ
most_forests = 1024

abbrev pub most_depth : ℕ
most_depth = 4096

-- the sums over the table's whole rows
unfoldable pub node_sum : List ℕ → ℕ
node_sum t = sum (map (λ r. r.nodes) (rows_of t))

unfoldable pub root_sum : List ℕ → ℕ
root_sum t = sum (map (λ r. r.roots) (rows_of t))

-- the forests of the input, their joined nodes, and their roots as positions
unfoldable pub forests_of : Input → List Forest
forests_of i = forests 0 (rows_of i.table) (nodes_of i.nodes) i.roots

unfoldable pub graph : Input → List Node
graph i = joined (forests_of i)

unfoldable pub roots_of : Input → List ℕ
roots_of i = joined_roots (forests_of i)

-- the checks of limit, sizes, records and ranges: 13, 2, 1, 3, 4, 6 (every node, reached or not)
unfoldable pub merge_checks : ℕ → Input → Room → List (Option Reply)
merge_checks limit i m =
    let n : ℕ = node_sum i.table in
    when (not (leb 1 limit && leb limit most_depth)) BadLimit
    ∷ when (ltb most n || (ltb most (root_sum i.table) || ltb most_forests (length (rows_of i.table)))) TooMany
    ∷ when (not (eqb (length i.table % row_size) 0)) (BadBuffers 1)
    ∷ when (not (eqb (length i.nodes) (size * n))) (BadBuffers 2)
    ∷ when (not (eqb (length i.roots) (root_sum i.table))) (BadBuffers 3)
    ∷ when (not (eqb (length m.ids) n)) (BadBuffers 6)
    ∷ when (ltb (length m.work) (work_words * n)) (BadBuffers 7)
    ∷ bad_record i.nodes
    ∷ root_range (forests_of i)
    ∷ child_range (forests_of i)
    ∷ []

-- 7 or 8, as the walk meets them
unfoldable pub stopped : Walked → Option Reply
stopped (going s) = None
stopped (cycle p) = Some (Cycle p)
stopped (deep p) = Some (TooDeep p)

-- where the walk has come to; nothing is merged where it stopped
unfoldable pub state_of : Walked → State
state_of (going s) = s
state_of (cycle p) = start
state_of (deep p) = start

-- 9: merged nodes exceed whole records in the node output, or merged roots exceed the root output
unfoldable pub short : Room → Result → Option Reply
short m r = when (ltb (length m.nodes / size) (length r.nodes) || ltb (length m.roots) (length r.roots)) (NoRoom (length r.nodes) (length r.roots))

-- 13, 2, 1, 3, 4, 6, then 7 or 8, then 9
unfoldable pub merge_refusals : ℕ → Input → Room → Walked → Result → List (Option Reply)
merge_refusals limit i m w r = merge_checks limit i m ++ stopped w ∷ short m r ∷ []

-- the new id of position p once the merged nodes are in the order o
unfoldable pub carried : State → List ℕ → ℕ → ℕ
carried s o p = elim (id_in s.done p) [ None ↦ no_id | Some i ↦ place_in o i ]

-- steps 4 and 5: roots renumbered, first mention kept, repeats dropped; every id carried through the canonical order
unfoldable pub merged : List Node → List ℕ → State → Result
merged g rs s =
    let o : List ℕ = order s.merged in
    record { nodes = arranged s.merged o; roots = firsts [] (map (carried s o) rs); ids = map (carried s o) (ids g) }

-- Merge
unfoldable pub merge : ℕ → Input → Room → Outcome
merge limit i m =
    let w : Walked = walk (graph i) limit (roots_of i) in
    let r : Result = merged (graph i) (roots_of i) (state_of w) in
    answered m (merge_refusals limit i m w r) r
