-- Listing the ids of one class, and what the order holds before any internal.
-- Assumes nothing: these are definitions.
use Rattle.std.specs.Prelude.{ℕ, suc, ◌+◌, ◌*◌, ◌/◌, ◌<◌, ◌≤◌, ◌≡◌, List, eqb, length, get_or, None, Option}
use Rattle.record.specs.Lists.{run}
use Rattle.record.specs.Node.{size, rank, class, node_at, nodes_of}
use Rattle.record.specs.declared.Class.{Class}
use Rattle.forest.specs.Lent.{work_words, most}
use Rattle.forest.specs.Lists.{keep}
use Rattle.forest.specs.Order.{externals, order, unreleased}
use Rattle.room.specs.Sections.{span, Out, Puts}
use Rattle.dense_order.specs.Marks.{mark_of}

-- the ids of the records of class k, in their order
unfoldable pub of_class : List ℕ → Class → List ℕ
of_class s k = keep (λ p. eqb (rank (class (node_at s p))) (rank k)) (run 0 (length s / size))

-- room for the ids of all records
pub record Space (s w : List ℕ) : Type 0 where
  pub few : length s / size ≤ most
  pub fits : length s / size ≤ length w

-- the r ids of class k are listed, and nothing behind them has changed
pub record Members (s w w' : List ℕ) (k : Class) (r : ℕ) : Type 0 where
  pub count : r ≡ length (of_class s k)
  pub few : r ≤ length s / size
  pub puts : Puts (of_class s k) w w' 0 r

-- a room of zeros for a forest of n nodes
pub record Blank (s w : List ℕ) (n : ℕ) : Type 0 where
  pub counted : n ≡ length s / size
  pub few : n ≤ most
  pub room : work_words * n ≤ length w
  pub zeros : (y : ℕ) → get_or w y 0 ≡ 0

-- the first r words are the externals by digest, and all else is 0
pub record Externals (s w : List ℕ) (n r : ℕ) : Type 0 where
  pub some : r ≤ n
  pub first : span w 0 r ≡ externals (nodes_of s)
  pub zeros : (y : ℕ) → r ≤ y → get_or w y 0 ≡ 0

-- w' is w with the first k of n ids in their own order and marked: nothing else has changed
pub record Kept (w w' : List ℕ) (n k : ℕ) : Type 0 where
  pub own : (p : ℕ) → p < k → get_or w' p 0 ≡ p
  pub marks : (p : ℕ) → p < k → get_or w' (n + p) 0 ≡ suc p
  pub rest : (y : ℕ) → Out y 0 k → Out y n k → get_or w' y 0 ≡ get_or w y 0

-- the answer names the lowest id that is never released; if there is none, the order is whole and each id's place is marked
pub record Ordered (s w : List ℕ) (n : ℕ) (r : Option ℕ) : Type 0 where
  pub answer : r ≡ unreleased (nodes_of s)
  pub whole : unreleased (nodes_of s) ≡ None → span w 0 n ≡ order (nodes_of s)
  pub marks : (p : ℕ) → p < n → get_or w (n + p) 0 ≡ mark_of (order (nodes_of s)) p
