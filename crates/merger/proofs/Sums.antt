-- Sums of a column over the first rows of a table, and the rows themselves.
-- Assumes nothing.
use Prim.Native.Nat.{ℕ, zero, suc, ◌+◌, ◌*◌, ◌/◌, ◌<◌, ◌≤◌}
use mathlib.Core.Path.{◌≡◌, refl, ◌∙◌, ap}
use mathlib.Core.List.{List, [], ◌∷◌, map}
use native.Mathlib.Omega.{arith}
use lib.ListN.{length, take, get_or, length-map}
use lib.Seq.{take_all}
use Rattle.record.specs.Lists.{run}
use Rattle.record.specs.Node.{row_size, row_at, rows_of}
use Rattle.record.specs.declared.Row.{Row}
use Rattle.record.proofs.Lengths.{length_run}
use Rattle.record.proofs.Nodes.{number_lt}
use Rattle.record.proofs.RoundTrip.{Octets}
use Rattle.forest.specs.Lists.{sum}
use Rattle.claims.specs.Searches.{mem_at}
use Rattle.sorting.proofs.Uses.{get_d_map, run_at}

-- what the first i rows have in a column
abbrev pub before : (Row → ℕ) → List Row → ℕ → ℕ
before col rows i = sum (map col (take i rows))

-- what stands where no row is
abbrev pub no_row : Row
no_row = record { nodes = 0; roots = 0 }

module _ (col : Row → ℕ) where
  pub before_none : (rows : List Row) → before col rows 0 ≡ 0
  unfolding sum
  before_none rows = refl

  pub before_next : (rows : List Row) (i : ℕ) → i < length rows → before col rows (suc i) ≡ before col rows i + col (get_or rows i no_row)
  unfolding sum
  before_next [] i h = absurd (omega arith)
  before_next (r ∷ rows) zero h = omega arith
  before_next (r ∷ rows) (suc i) h = let q = before_next rows i (omega arith) in omega arith

  pub before_all : (rows : List Row) (i : ℕ) → length rows ≤ i → before col rows i ≡ sum (map col rows)
  before_all rows i h = ap (λ (l : List Row). sum (map col l)) (take_all i rows h)

  pub before_most : (rows : List Row) (i : ℕ) → before col rows i ≤ sum (map col rows)
  unfolding sum
  before_most [] zero = omega arith
  before_most [] (suc i) = omega arith
  before_most (r ∷ rows) zero = omega arith
  before_most (r ∷ rows) (suc i) = let q = before_most rows i in omega arith

  -- no sum of numbers of four bytes is more than as many times what they stay below
  pub before_fits : (rows : List Row) → ((j : ℕ) → j < length rows → col (get_or rows j no_row) < 4294967296) → (i : ℕ) → i ≤ length rows → before col rows i ≤ 4294967296 * i
  before_fits rows f zero h = omega (arith, before_none rows)
  before_fits rows f (suc i) h =
      let a = before_fits rows f i (omega arith) in
      let b = f i (omega arith) in
      omega (arith, before_next rows i (omega arith))

module _ (t : List ℕ) where
  pub length_rows_of : length (rows_of t) ≡ length t / row_size
  unfolding rows_of
  length_rows_of = length-map (run 0 (length t / row_size)) (row_at t) ∙ length_run 0 (length t / row_size)

  pub row_is : (i : ℕ) → i < length t / row_size → get_or (rows_of t) i no_row ≡ row_at t i
  unfolding rows_of
  row_is i h =
      let n = length_run 0 (length t / row_size) in
      let e : get_or (run 0 (length t / row_size)) i 0 ≡ i = omega (arith, run_at 0 (length t / row_size) i h) in
      get_d_map (row_at t) (run 0 (length t / row_size)) i 0 no_row (omega arith) ∙ ap (row_at t) e

  -- the numbers of a row have four bytes
  module _ (byte : (j : ℕ) → get_or t j 0 < 256) where
    octets : Octets t
    octets x m = let (p, e) = mem_at 0 m in let k = byte p in omega arith

    pub row_nodes : (i : ℕ) → (row_at t i).nodes < 4294967296
    unfolding row_at
    row_nodes i = number_lt 4 t (row_size * i) octets

    pub row_roots : (i : ℕ) → (row_at t i).roots < 4294967296
    unfolding row_at
    row_roots i = number_lt 4 t (row_size * i + 4) octets
