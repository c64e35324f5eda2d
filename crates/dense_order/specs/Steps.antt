-- Canonicalize's steps: what each part of its checks looks at.
-- Assumes nothing: these are definitions.
use Rattle.std.specs.Prelude.{ℕ, ◌+◌, ◌*◌, ◌/◌, ◌%◌, ◌<◌, ◌≤◌, ◌≡◌, not, ◌||◌, List, [], ◌∷◌, ltb, eqb, length, get_or, Option, None}
use Rattle.record.specs.Lists.{flat}
use Rattle.record.specs.Node.{size, nodes_of, node_bytes}
use Rattle.forest.specs.Canonicalize.{alone, root_range, disorders, canonical}
use Rattle.forest.specs.Lent.{work_words, most, when, first}
use Rattle.forest.specs.Order.{order}
use Rattle.forest.specs.Validate.{bad_record}
use Rattle.forest.specs.declared.Reply.{Reply}
use Rattle.forest.specs.declared.Reply.TheVariants.{BadBuffers, TooMany}
use Rattle.room.specs.Sections.{span}
use Rattle.dense_order.specs.Found.{Checked, check_of}
use Rattle.dense_order.specs.Marks.{mark_of}

-- the checks of sizes, by the buffers' lengths: 2, 1
unfoldable pub size_checks : ℕ → ℕ → ℕ → ℕ → ℕ → ℕ → List (Option Reply)
size_checks nodes roots nodeOut rootOut ids work =
    when (ltb most (nodes / size) || ltb most roots) TooMany
    ∷ when (not (eqb (nodes % size) 0)) (BadBuffers 2)
    ∷ when (not (eqb nodeOut nodes)) (BadBuffers 4)
    ∷ when (not (eqb rootOut roots)) (BadBuffers 5)
    ∷ when (not (eqb ids (nodes / size))) (BadBuffers 6)
    ∷ when (ltb work (work_words * (nodes / size))) (BadBuffers 7)
    ∷ []

-- the checks of records and roots, and what can keep the forest from being ordered: 3, 4, 5, 6, 7
unfoldable pub forest_checks : List ℕ → List ℕ → List (Option Reply)
forest_checks s rs = bad_record s ∷ root_range (alone (nodes_of s) rs) ∷ disorders (nodes_of s)

-- lengths that fit a forest of n nodes
pub record Fitting (s w : List ℕ) (n : ℕ) : Type 0 where
  pub counted : n ≡ length s / size
  pub few : n ≤ most
  pub room : work_words * n ≤ length w

-- the order and each id's place stand in the room
pub record Arranged (s w : List ℕ) (n : ℕ) : Type 0 where
  pub whole : span w 0 n ≡ order (nodes_of s)
  pub marks : (p : ℕ) → p < n → get_or w (n + p) 0 ≡ mark_of (order (nodes_of s)) p

-- the answer to the checks os; if none refuses, the forest is arranged in the room
pub record Answers (os : List (Option Reply)) (s w : List ℕ) (n : ℕ) (r : Checked Unit) : Type 0 where
  pub answer : r ≡ check_of (first os)
  pub arranged : first os ≡ None → Arranged s w n

-- an arranged forest that can be written: no refusal of records, roots or order is left
pub record Deliverable (s rs w : List ℕ) (n : ℕ) : Type 0 where
  pub whole : size * n ≡ length s
  pub fitting : Fitting s w n
  pub passed : first (forest_checks s rs) ≡ None
  pub arranged : Arranged s w n

-- the three outputs are the canonical forest's nodes, its roots, and the id list
pub record Delivered (s rs nodeOut rootOut idList : List ℕ) : Type 0 where
  pub nodes : nodeOut ≡ flat node_bytes (canonical (nodes_of s) rs).nodes
  pub roots : rootOut ≡ (canonical (nodes_of s) rs).roots
  pub ids_are : idList ≡ (canonical (nodes_of s) rs).ids
