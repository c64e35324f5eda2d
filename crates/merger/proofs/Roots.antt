-- The roots of all forests as positions, and what the walk over them comes to: its state stays sound, within the graph and closed.
-- Assumes nothing.
use Prim.Native.Nat.{ℕ, ◌<◌}
use mathlib.Core.Path.{◌≡◌, refl, sym}
use mathlib.Core.List.{List, [], ◌∷◌, Memᴰ}
use Rattle.record.specs.Node.{nodes_of}
use Rattle.record.specs.declared.Node.{Node}
use Rattle.forest.specs.Graph.{next}
use Rattle.forest.specs.Lent.{Input}
use Rattle.forest.specs.Merge.{forests_of, roots_of}
use Rattle.forest.specs.Walk.{State, start, going, each, visit, walk}
use Rattle.claims.specs.WalkInduction.{onward_going}
use Rattle.merger.specs.Table.{starts}
use Rattle.merger.specs.Walking.{Fine}
use Rattle.merger.proofs.Cursors.{starts_is}
use Rattle.merger.proofs.Fine.{visit_fine, fine_start}

pub roots_are : (i : Input) → roots_of i ≡ starts i.table i.roots
unfolding roots_of forests_of
roots_are i = starts_is i.table (nodes_of i.nodes) i.roots

module _ (g : List Node) (n : ℕ) (inside : (p c : ℕ) → Memᴰ c (next g p) → c < n) where
  each_fine : (d : ℕ) (ps : List ℕ) (s u : State) → each (visit g d []) ps s ≡ going u → ((x : ℕ) → Memᴰ x ps → x < n) → Fine g n [] s → Fine g n [] u
  unfolding each
  each_fine d [] s u e low f = let q : s ≡ u = cc in rw (sym q) f
  each_fine d (p ∷ ps) s u e low f = go (onward_going (visit g d [] p s) (λ t. each (visit g d []) ps t) u e) (each_fine d ps)
    where
      go : (t : State) × (visit g d [] p s ≡ going t) × (each (visit g d []) ps t ≡ going u)
          → ((t u : State) → each (visit g d []) ps t ≡ going u → ((x : ℕ) → Memᴰ x ps → x < n) → Fine g n [] t → Fine g n [] u) → Fine g n [] u
      go (t, a, b) ih = ih t u b (λ x m. low x (Memᴰ.tail m)) (visit_fine g n inside d [] p s t a (low p (Memᴰ.head refl)) f).fine

  pub walk_fine : (limit : ℕ) (roots : List ℕ) (t : State) → walk g limit roots ≡ going t → ((x : ℕ) → Memᴰ x roots → x < n) → Fine g n [] t
  unfolding walk
  walk_fine limit roots t e low = each_fine limit roots start t e low (fine_start g n inside)
