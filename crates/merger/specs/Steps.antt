-- Merge's steps: what each part of its checks looks at, and what its walk and its result leave in the room.
-- Assumes nothing: these are definitions.
use Rattle.std.specs.Prelude.{ℕ, ◌*◌, ◌%◌, ◌≡◌, not, ◌&&◌, ◌||◌, List, [], ◌∷◌, ◌++◌, leb, ltb, eqb, length, Option, Some, None, Ok, Err}
use Rattle.record.specs.Node.{size, row_size, rows_of}
use Rattle.forest.specs.Canonicalize.{root_range, child_range}
use Rattle.forest.specs.Lent.{Input, Room, Result, work_words, most, when, first}
use Rattle.forest.specs.Merge.{most_forests, most_depth, node_sum, root_sum, forests_of, graph, roots_of, stopped, state_of, merged}
use Rattle.forest.specs.Validate.{bad_record}
use Rattle.forest.specs.Walk.{State, Walked, going, walk}
use Rattle.forest.specs.declared.Reply.{Reply}
use Rattle.forest.specs.declared.Reply.TheVariants.{BadBuffers, TooMany, NoRoom, BadLimit}
use Rattle.dense_order.specs.Found.{Checked}
use Rattle.merger.specs.Settling.{Settled}
use Rattle.merger.specs.Walking.{went_of, Ended}

-- the checks of limit and sizes, by the table and the buffers' lengths: 13, 2, 1
unfoldable pub size_checks : ℕ → List ℕ → ℕ → ℕ → ℕ → ℕ → List (Option Reply)
size_checks limit t nodes roots ids work =
    when (not (leb 1 limit && leb limit most_depth)) BadLimit
    ∷ when (ltb most (node_sum t) || (ltb most (root_sum t) || ltb most_forests (length (rows_of t)))) TooMany
    ∷ when (not (eqb (length t % row_size) 0)) (BadBuffers 1)
    ∷ when (not (eqb nodes (size * node_sum t))) (BadBuffers 2)
    ∷ when (not (eqb roots (root_sum t))) (BadBuffers 3)
    ∷ when (not (eqb ids (node_sum t))) (BadBuffers 6)
    ∷ when (ltb work (work_words * node_sum t)) (BadBuffers 7)
    ∷ []

-- the checks of records and ranges: 3, 4, 6
unfoldable pub range_checks : Input → List (Option Reply)
range_checks i = bad_record i.nodes ∷ root_range (forests_of i) ∷ child_range (forests_of i) ∷ []

-- where the walk over the input ends, and the result there
unfoldable pub walk_of : ℕ → Input → Walked
walk_of limit i = walk (graph i) limit (roots_of i)

unfoldable pub result_of : ℕ → Input → Result
result_of limit i = merged (graph i) (roots_of i) (state_of (walk_of limit i))

-- 7 or 8 as the walk says, then 9 for outputs of so many records and roots
unfoldable pub walk_checks : ℕ → Input → ℕ → ℕ → List (Option Reply)
walk_checks limit i records starts =
    let r : Result = result_of limit i in
    stopped (walk_of limit i)
    ∷ when (ltb records (length r.nodes) || ltb starts (length r.roots)) (NoRoom (length r.nodes) (length r.roots))
    ∷ []

-- all checks behind the sizes
abbrev pub later_checks : ℕ → Input → ℕ → ℕ → List (Option Reply)
later_checks limit i records starts = range_checks i ++ walk_checks limit i records starts

-- the limit and the sizes are passed, in a room as long as this one
pub record Sized (limit : ℕ) (i : Input) (w : List ℕ) : Type 0 where
  pub room : Room
  pub long : length w ≡ length room.work
  pub passes : first (size_checks limit i.table (length i.nodes) (length i.roots) (length room.ids) (length room.work)) ≡ None

-- so are records and ranges
pub record Past (limit : ℕ) (i : Input) (w : List ℕ) : Type 0 where
  pub sized : Sized limit i w
  pub ranged : first (range_checks i) ≡ None

-- the walk's answer is r; if it has come to t, so has the room w
pub record Ends (limit : ℕ) (i : Input) (w : List ℕ) (n : ℕ) (r : Checked ℕ) : Type 0 where
  pub answer : r ≡ went_of (walk_of limit i)
  pub ended : (t : State) → walk_of limit i ≡ going t → Ended i.nodes w n (length t.merged) (graph i) t

-- a refusal, or how many nodes and roots the result has
unfoldable pub joined_of : Option Reply → Result → Checked (ℕ × ℕ)
joined_of (Some r) x = Err r
joined_of None x = Ok (length x.nodes, length x.roots)

-- the answer to all checks behind the sizes is r; if none refuses, the room w holds the result
pub record Joins (limit : ℕ) (i : Input) (records starts : ℕ) (w : List ℕ) (n : ℕ) (r : Checked (ℕ × ℕ)) : Type 0 where
  pub answer : r ≡ joined_of (first (later_checks limit i records starts)) (result_of limit i)
  pub settled : first (later_checks limit i records starts) ≡ None
      → Settled i.nodes w n (length (result_of limit i).nodes) (length (result_of limit i).roots) (graph i) (roots_of i) (state_of (walk_of limit i))
