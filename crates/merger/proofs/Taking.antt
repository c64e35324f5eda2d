-- Taking what hangs below an open position: an external's replacement, or the children one after the other.
-- Assumes nothing.
use Rattle.std.specs.Prelude.{Option, Some, None, Result, Ok}
use Prim.Native.Nat.{ℕ, ◌+◌, ◌<◌, ◌≤◌}
use mathlib.Core.Path.{◌≡◌, refl, sym, ◌∙◌, ap}
use mathlib.Core.Bool.{true, false}
use mathlib.Core.List.{List, [], ◌∷◌, Memᴰ}
use native.Mathlib.Omega.{arith}
use lib.ListN.{length, get_or, set}
use Rattle.record.specs.Node.{node_at, nodes_of, is_external}
use Rattle.record.specs.declared.Node.{Node}
use Rattle.forest.specs.Graph.{replacement, next}
use Rattle.forest.specs.Walk.{State, going, visit, finish}
use Rattle.claims.specs.Searches.{get_d_mem}
use Rattle.merger.specs.Walking.{Holds, Stands, StandsAt, Pushing, Kept, Comes, under}
use Rattle.merger.specs.declared.merging.Walk.{Walk}
use Rattle.merger.proofs.Below.{replaced_by_lem, next_one, unreplaced, next_none, not_replaced, next_long, next_at, pushing, finishes, inheriting}
use Rattle.merger.proofs.Holding.{kept_same}
use Rattle.merger.proofs.Going.{Gone, gone_start, gone_step, gone_stops}

-- a walk below that stops
stops : {s b f v u : List ℕ} {d m i p : ℕ} {g : List Node} {path : List ℕ} {t : State} (a : Gone s b f v u d m i g (p ∷ path) (next g p) t) → i < length (next g p) → (x : ℕ) → x ≡ get_or (next g p) i 0
    → {v' u' : List ℕ} {r : Result ℕ ℕ} → x < length b → Comes g v' u' (length b) (p ∷ path) (visit g d (p ∷ path) x a.state) r → ((c : ℕ) → r ≡ Ok c → ⊥) → Comes g v' u' (length b) path (under g d path p t) r
unfolding under
stops {p = p} {g = g} a more x is low k off = let (y, w, z) = gone_stops a more x is low k off (λ u. going (finish g p u)) in record { answer = y; told = w; came = λ u e. absurd (z u e) }

-- AN EXTERNAL -------------------------------------------------------------------------------------

module _ {s b f v u : List ℕ} {m p : ℕ} {g : List Node} {path : List ℕ} {t : State} (q : Stands s b f v u m g (p ∷ path) t) (low : p < length b) (d : ℕ)
    (x : Node) (is : x ≡ node_at s p) (e : is_external x ≡ true) (r : Option ℕ) (j : r ≡ (replacement (nodes_of s) x.digest)) where
  external : is_external (node_at s p) ≡ true
  external = rw (← is) e

  found : r ≡ (replacement (nodes_of s) (node_at s p).digest)
  found = rw (← is) j

  abbrev begun : Gone s b f v u d m 0 g (p ∷ path) (next g p) t
  begun = gone_start d (next g p) q

  -- that is not replaced
  module _ (z : r ≡ None) where
    leaf : length (next g p) ≤ 0
    leaf = let y = ap length (next_none q.charted p low external r found z) in omega arith

    pub leaf_pushing : ¬ Memᴰ p path → Pushing s b v u m p g path t
    unfolding gone_start
    leaf_pushing new = pushing begun low leaf new (unreplaced q.charted p low external r found z)

    pub leaf_finishes : {v' u' : List ℕ} (k : ℕ) → (k ≡ length (finish g p t).merged) × Holds g v' u' (length b) path (finish g p t) → Comes g v' u' (length b) path (under g d path p t) (Ok k)
    unfolding gone_start
    leaf_finishes k h = finishes begun low leaf k h

  -- that is replaced by y
  module _ (y : ℕ) (z : r ≡ Some y) where
    one : next g p ≡ y ∷ []
    one = next_one q.charted p low external r found y z

    first : Memᴰ y (next g p)
    first = rw one (Memᴰ.head refl)

    pub replacement_low : y < length b
    replacement_low = q.charted.mapped.inside p y first

    more : 0 < length (next g p)
    more = let l = ap length one in omega arith

    at_first : y ≡ get_or (next g p) 0 0
    at_first = rw one refl

    module _ {v' u' : List ℕ} {c : Result ℕ ℕ} (k : Comes g v' u' (length b) (p ∷ path) (visit g d (p ∷ path) y t) c) where
      pub replacement_stops : ((o : ℕ) → c ≡ Ok o → ⊥) → Comes g v' u' (length b) path (under g d path p t) c
      unfolding gone_start
      replacement_stops off = stops begun more y at_first replacement_low k off

      pub replacement_long : (o : ℕ) → c ≡ Ok o → length v' ≡ length b
      unfolding gone_start
      replacement_long o w = (gone_step begun more y at_first replacement_low k o w).stands.holds.long

      pub replacement_ends : (o : ℕ) → c ≡ Ok o → Comes g (set v' p (get_or v' y 0)) u' (length b) path (under g d path p t) (Ok o)
      unfolding gone_start
      replacement_ends o w = inheriting (gone_step begun more y at_first replacement_low k o w) low (let l = ap length one in omega arith) y (replaced_by_lem q.charted p low external r found y z) first

-- ANY OTHER NODE ----------------------------------------------------------------------------------

-- from the walk x on, the first i of `children` children of p are taken
pub record Taking (x y : Walk) (p d count m i children : ℕ) : Type 0 where
  pub kept : Kept x y
  pub within : i ≤ children
  pub gone : (g : List Node) (path : List ℕ) (t : State) → StandsAt x count g (p ∷ path) t → Gone x.nodes.now x.bases.now x.shelf.now y.states.now y.sources.now d m i g (p ∷ path) (next g p) t

pub taking_start : (x : Walk) (p d count children : ℕ) → Taking x x p d count count 0 children
taking_start x p d count children = record { kept = kept_same x; within = omega arith; gone = λ g path t q. gone_start d (next g p) q }

module _ {s b f v₀ u₀ v u : List ℕ} {p d count m i : ℕ} {g : List Node} {path : List ℕ} {t : State} (low : p < length b) (x : Node) (is : x ≡ node_at s p) (e : is_external x ≡ false) (q : Stands s b f v₀ u₀ count g (p ∷ path) t)
    (a : Gone s b f v u d m i g (p ∷ path) (next g p) t) where
  inner : is_external (node_at s p) ≡ false
  inner = rw (← is) e

  counted : length (next g p) ≡ x.count
  counted = next_long q.charted p low inner ∙ ap (λ (y : Node). y.count) (sym is)

  -- there are more children
  module _ (less : i < x.count) (c : ℕ) (child : c ≡ get_or b p 0 + get_or x.kids i 0) where
    more_kids : i < length (next g p)
    more_kids = omega (arith, counted)

    child_at : c ≡ get_or (next g p) i 0
    child_at = child ∙ (ap (λ (y : Node). get_or b p 0 + get_or y.kids i 0) is ∙ sym (next_at q.charted p low inner i (rw (← is) less)))

    pub child_low : c < length b
    child_low = q.charted.mapped.inside p c (rw child_at (get_d_mem (next g p) i 0 more_kids))

    module _ {v' u' : List ℕ} {r : Result ℕ ℕ} (k : Comes g v' u' (length b) (p ∷ path) (visit g d (p ∷ path) c a.state) r) where
      pub child_stops : ((j : ℕ) → r ≡ Ok j → ⊥) → Comes g v' u' (length b) path (under g d path p t) r
      child_stops off = stops a more_kids c child_at child_low k off

      pub child_taken : (j : ℕ) → r ≡ Ok j → Gone s b f v' u' d j (i + 1) g (p ∷ path) (next g p) t
      child_taken j o = gone_step a more_kids c child_at child_low k j o

  -- all are taken
  module _ (all : x.count ≤ i) where
    all_kids : length (next g p) ≤ i
    all_kids = omega (arith, counted)

    pub kids_pushing : ¬ Memᴰ p path → Pushing s b v u m p g path a.state
    kids_pushing new = pushing a low all_kids new (not_replaced q.charted p low inner)

    pub kids_finish : {v' u' : List ℕ} (k : ℕ) → (k ≡ length (finish g p a.state).merged) × Holds g v' u' (length b) path (finish g p a.state) → Comes g v' u' (length b) path (under g d path p t) (Ok k)
    kids_finish k h = finishes a low all_kids k h
