-- Merge's checks of sizes: the rows are counted before their sums, which decides nothing else.
-- Assumes nothing.
use Prim.Native.Nat.{ℕ, ◌/◌, ◌<◌, ◌≤◌}
use mathlib.Core.Path.{◌≡◌, refl}
use mathlib.Core.Bool.{Bool, true, false, ◌||◌}
use mathlib.Core.List.{List}
use native.Mathlib.Omega.{arith}
use lib.Dec.{ltb}
use borrow.Author.Tests.{lt-ltb, le-ltb, ltb-false}
use lib.ListN.{length}
use Rattle.record.specs.Node.{row_size, rows_of}
use Rattle.record.proofs.Basics.{either_false}
use Rattle.forest.specs.Lent.{most}
use Rattle.forest.specs.Merge.{most_forests, node_sum, root_sum}
use Rattle.merger.specs.Table.{Few}
use Rattle.merger.proofs.Sums.{length_rows_of}

last_true : (a b : Bool) → (a || (b || true)) ≡ true
last_true true b = refl
last_true false true = refl
last_true false false = refl

last_false : (a b : Bool) → (a || (b || false)) ≡ (a || b)
last_false true b = refl
last_false false true = refl
last_false false false = refl

module _ (t : List ℕ) where
  -- too many rows are too many, whatever they sum up to
  pub rows_many : most_forests < length t / row_size → (ltb most (node_sum t) || (ltb most (root_sum t) || ltb most_forests (length (rows_of t)))) ≡ true
  rows_many h = rw (lt-ltb most_forests (length (rows_of t)) (omega (arith, length_rows_of t))) (last_true (ltb most (node_sum t)) (ltb most (root_sum t)))

  -- otherwise the sums n and k decide
  pub sums_decide : Few t → (n k : ℕ) → (n ≡ node_sum t) × (k ≡ root_sum t) → (ltb most (node_sum t) || (ltb most (root_sum t) || ltb most_forests (length (rows_of t)))) ≡ (ltb most n || ltb most k)
  sums_decide f n k (a, b) = rw (le-ltb most_forests (length (rows_of t)) (omega (arith, length_rows_of t)), a, b) (last_false (ltb most (node_sum t)) (ltb most (root_sum t)))

-- a sum that passes is not above the most
pub sum_few : (n k : ℕ) → (ltb most n || ltb most k) ≡ false → n ≤ most
sum_few n k e = ltb-false _ _ (either_false (ltb most n) (ltb most k) e).0
