-- Laws of a loop that writes for each position the first position of its forest.
-- Assumes nothing.
use Prim.Native.Nat.{ℕ, ◌+◌, ◌<◌, ◌≤◌}
use mathlib.Core.Path.{◌≡◌, refl, ◌∙◌}
use mathlib.Core.List.{List}
use native.Mathlib.Omega.{arith}
use native.Mathlib.Decide.{dec_lt}
use lib.ListN.{length, get_or, set, length-set}
use lib.Seq.{get_or-set_same, get_or-set_other}
use Rattle.record.specs.Node.{rows_of, renumber}
use Rattle.record.specs.declared.Node.{Node}
use Rattle.forest.specs.Graph.{forests, joined, no_node, at}
use Rattle.forest.specs.Merge.{node_sum}
use Rattle.merger.specs.Table.{AtNode, Bases}
use Rattle.merger.specs.declared.table.Cursor.{Cursor}
use Rattle.merger.proofs.Cuts.{nodes_cut}
use Rattle.merger.proofs.Cursors.{node_here}

-- the node at a position, with the first position of its forest added to its children
node_position : (t : List ℕ) (ns : List Node) (rs : List ℕ) (c : Cursor) (p : ℕ) → AtNode t c p → length ns ≡ node_sum t → at (joined (forests 0 (rows_of t) ns rs)) p ≡ renumber (λ x. c.base + x) (at ns p)
unfolding joined at
node_position t ns rs c p a e = rw (nodes_cut (λ b n. renumber (λ x. b + x)) 0 (rows_of t) ns rs) (node_here (λ b n. renumber (λ x. b + x)) t c ns no_node no_node p a e)

-- the positions before p have theirs
pub record Based (t b₀ b : List ℕ) (p : ℕ) : Type 0 where
  pub long : length b ≡ length b₀
  pub bases : (ns : List Node) (rs : List ℕ) → length ns ≡ length b → (q : ℕ) → q < p → at (joined (forests 0 (rows_of t) ns rs)) q ≡ renumber (λ x. get_or b q 0 + x) (at ns q)

pub based_start : (t b : List ℕ) → Based t b b 0
based_start t b = record { long = refl; bases = λ ns rs e q h. absurd (omega arith) }

module _ {t b₀ b : List ℕ} {p : ℕ} (d : Based t b₀ b p) where
  -- c is the place behind the forest of position p
  module _ (c : Cursor) (a : AtNode t c p) (whole : length b₀ ≡ node_sum t) (h : p < length b₀) where
    b' : List ℕ
    b' = set b p c.base

    bases_now : (ns : List Node) (rs : List ℕ) → length ns ≡ length b → (q : ℕ) → q < p + 1 → Dec (q < p) → at (joined (forests 0 (rows_of t) ns rs)) q ≡ renumber (λ x. get_or b' q 0 + x) (at ns q)
    unfolding b'
    bases_now ns rs e q k (yes y) = rw (get_or-set_other b p q c.base 0 (λ z. omega arith)) (d.bases ns rs e q y)
    bases_now ns rs e q k (no y) =
        let z : q ≡ p = omega arith in
        rw (z, get_or-set_same b p c.base 0 (omega (arith, d.long))) (node_position t ns rs c p a (e ∙ (d.long ∙ whole)))

    pub based_step : Based t b₀ (set b p c.base) (p + 1)
    unfolding b'
    based_step = let l = length-set b p c.base in record { long = l ∙ d.long; bases = λ ns rs e q k. bases_now ns rs (e ∙ l) q k (dec_lt q p) }

  pub based_end : length b₀ ≤ p → Bases t b
  based_end h = let l = d.long in record { bases = λ ns rs e q k. d.bases ns rs e q (omega arith) }
