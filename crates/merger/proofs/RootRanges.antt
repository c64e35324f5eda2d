-- Laws of a loop that seeks the lowest place of a root that names no node of its forest.
-- Assumes nothing.
use Rattle.std.specs.Prelude.{Some, None}
use Prim.Native.Nat.{ℕ, ◌+◌, ◌-◌, ◌<◌, ◌≤◌}
use mathlib.Core.Path.{◌≡◌}
use mathlib.Core.Bool.{Bool, true, not}
use mathlib.Core.List.{List}
use native.Mathlib.Omega.{arith}
use native.Mathlib.Numerals.{add-one}
use lib.Dec.{ltb}
use borrow.Author.Tests.{lt-ltb, le-ltb}
use lib.ListN.{length, drop, get_or, drop_of_length-le}
use lib.Seq.{drop-cons}
use Rattle.record.specs.Node.{rows_of}
use Rattle.record.specs.declared.Node.{Node}
use Rattle.forest.specs.Lists.{lowest}
use Rattle.forest.specs.Graph.{forests, far_root}
use Rattle.forest.specs.Merge.{root_sum}
use Rattle.dense_order.proofs.Lowest.{further, further_zero, further_here, further_there}
use Rattle.merger.specs.Table.{AtRoot}
use Rattle.merger.specs.declared.table.Cursor.{Cursor}
use Rattle.merger.proofs.Cuts.{root_count, cut, cut_long, roots_cut}
use Rattle.merger.proofs.Cursors.{root_here}

-- whether each root names a node of its forest
unfoldable pub names : List ℕ → List ℕ → List Bool
names t rs = cut root_count (λ b n r. ltb r n) 0 (rows_of t) rs

far_root_is : (t : List ℕ) (ns : List Node) (rs : List ℕ) → far_root (forests 0 (rows_of t) ns rs) ≡ lowest not (names t rs)
unfolding far_root names
far_root_is t ns rs = rw (roots_cut (λ b n r. ltb r n) 0 (rows_of t) ns rs)

-- each root before place k does
abbrev pub Inside : List ℕ → List ℕ → ℕ → Type 0
Inside t rs k = lowest not (names t rs) ≡ further k (lowest not (drop k (names t rs)))

module _ (t rs : List ℕ) where
  pub inside_start : Inside t rs 0
  inside_start = further_zero (lowest not (names t rs))

  module _ (whole : length rs ≡ root_sum t) (k : ℕ) (s : Inside t rs k) where
    long : length (names t rs) ≡ length rs
    unfolding names root_sum
    long = cut_long root_count (λ b n r. ltb r n) 0 (rows_of t) rs whole

    -- c is the place behind the forest of root k
    module _ (c : Cursor) (a : AtRoot t c k) (h : k < length rs) where
      named : get_or (names t rs) k true ≡ ltb (get_or rs k 0) (c.nodes - c.base)
      unfolding names
      named = root_here (λ b n r. ltb r n) t c rs 0 true k a whole

      pub inside_found : c.nodes - c.base ≤ get_or rs k 0 → (ns : List Node) → Some k ≡ (far_root (forests 0 (rows_of t) ns rs))
      unfolding lowest
      inside_found e ns = rw (far_root_is t ns rs, s, drop-cons (names t rs) k true (omega (arith, long)), named, le-ltb (get_or rs k 0) (c.nodes - c.base) e, further_here k _)

      pub inside_step : get_or rs k 0 < c.nodes - c.base → Inside t rs (k + 1)
      unfolding lowest
      inside_step e = rw (s, drop-cons (names t rs) k true (omega (arith, long)), named, lt-ltb (get_or rs k 0) (c.nodes - c.base) e, further_there k _, add-one)

    pub inside_end : length rs ≤ k → (ns : List Node) → None ≡ (far_root (forests 0 (rows_of t) ns rs))
    unfolding lowest further
    inside_end h ns = let l = long in let z : length (names t rs) ≤ k = omega arith in rw (far_root_is t ns rs, s, drop_of_length-le (names t rs) z)
