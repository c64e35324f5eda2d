-- The whole records from one on: what a loop over the records has still to read.
-- Assumes nothing.
use Prim.Native.Nat.{ℕ, suc, ◌+◌, ◌-◌, ◌/◌, ◌<◌, ◌≤◌}
use mathlib.Core.Path.{◌≡◌}
use mathlib.Core.List.{List, [], ◌∷◌, map}
use native.Mathlib.Omega.{arith}
use native.Mathlib.Numerals.{add-one}
use lib.ListN.{length}
use Rattle.record.specs.Lists.{run}
use Rattle.record.specs.Node.{size, node_at, nodes_of}
use Rattle.record.specs.declared.Node.{Node}

-- the whole records from number i on
unfoldable pub nodes_from : List ℕ → ℕ → List Node
nodes_from s i = map (node_at s) (run i (length s / size - i))

module _ (s : List ℕ) where
  pub rest_all : nodes_of s ≡ nodes_from s 0
  unfolding nodes_of nodes_from
  rest_all = let e : length s / size - 0 ≡ length s / size = omega arith in rw e

  pub rest_step : (i : ℕ) → i < length s / size → nodes_from s i ≡ node_at s i ∷ nodes_from s (i + 1)
  unfolding nodes_from run
  rest_step i h = let e : length s / size - i ≡ suc (length s / size - (i + 1)) = omega arith in rw (e, add-one)

  pub rest_end : (i : ℕ) → length s / size ≤ i → nodes_from s i ≡ []
  unfolding nodes_from run
  rest_end i h = let e : length s / size - i ≡ 0 = omega arith in rw e
