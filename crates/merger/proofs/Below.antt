-- What hangs below a position, by its record and the search for its replacement; and how its finish ends the walk below it.
-- Assumes nothing.
use Prim.Native.Nat.{ℕ, ◌+◌, ◌<◌, ◌≤◌}
use mathlib.Core.Path.{◌≡◌, refl, sym, ◌∙◌, ap}
use mathlib.Core.Bool.{true, false}
use mathlib.Core.List.{List, [], ◌∷◌, map, append-nil, Memᴰ}
use mathlib.Core.Logic.{inl}
use Rattle.std.specs.Prelude.{Some, None, Option, Ok}
use native.Mathlib.Omega.{arith}
use lib.ListN.{length, get_or, set, length-map, length-take}
use lib.Seq.{get_or-take}
use Rattle.record.specs.Node.{node_at, nodes_of, class, is_external, children, renumber}
use Rattle.record.specs.declared.Node.{Node}
use Rattle.record.proofs.Nodes.{children_renumber, not_internal, full_read}
use Rattle.forest.specs.Graph.{at, replacement, replaced_by, listed, next}
use Rattle.forest.specs.Walk.{State, going, onward, finish}
use Rattle.claims.specs.Built.{no_kids}
use Rattle.claims.specs.Children.{Bare}
use Rattle.sorting.proofs.Uses.{get_d_map}
use Rattle.merger.specs.Walking.{Charted, Pushing, Holds, Comes, come_of, told_by, under}
use Rattle.merger.proofs.Finishing.{inherits}
use Rattle.merger.proofs.Going.{Gone, gone_done, gone_all}

-- WHAT HANGS BELOW --------------------------------------------------------------------------------

module _ {s b f : List ℕ} {g : List Node} (c : Charted s b f g) (p : ℕ) (low : p < length b) where
  node_is : at g p ≡ renumber (λ k. get_or b p 0 + k) (node_at s p)
  node_is = c.mapped.nodes p low

  class_is : is_external (at g p) ≡ is_external (node_at s p)
  unfolding renumber is_external class
  class_is = ap is_external node_is

  module _ (e : is_external (node_at s p) ≡ true) where
    is_external_lem : is_external (at g p) ≡ true
    is_external_lem = class_is ∙ e

    replaced_is : replaced_by g p ≡ replacement g (node_at s p).digest
    unfolding replaced_by renumber
    replaced_is = rw (is_external_lem, replaced_by) (ap (λ (x : Node). replacement g x.digest) node_is)

    no_children : children (at g p) ≡ []
    unfolding Bare
    no_children = no_kids (children (at g p)) (λ k m. not_internal (at g p) (inl is_external_lem) (c.mapped.bare p k m))

    -- the search for its replacement
    module _ (r : Option ℕ) (k : r ≡ (replacement (nodes_of s) (node_at s p).digest)) where
      pub replaced_by_lem : (q : ℕ) → r ≡ Some q → replaced_by g p ≡ Some q
      replaced_by_lem q z = replaced_is ∙ (sym (c.same _) ∙ (sym k ∙ z))

      pub next_one : (q : ℕ) → r ≡ Some q → next g p ≡ q ∷ []
      unfolding next listed
      next_one q z = rw (no_children, replaced_by_lem q z) refl

      pub unreplaced : r ≡ None → replaced_by g p ≡ None
      unreplaced z = replaced_is ∙ (sym (c.same _) ∙ (sym k ∙ z))

      pub next_none : r ≡ None → next g p ≡ []
      unfolding next listed
      next_none z = rw (no_children, unreplaced z) refl

  module _ (e : is_external (node_at s p) ≡ false) where
    pub not_replaced : replaced_by g p ≡ None
    unfolding replaced_by
    not_replaced = rw (class_is ∙ e, replaced_by) refl

    pub next_kids : next g p ≡ map (λ k. get_or b p 0 + k) (children (node_at s p))
    unfolding next listed
    next_kids = rw (not_replaced, append-nil (children (at g p)), node_is) (children_renumber _ (node_at s p))

    kids_long : length (children (node_at s p)) ≡ (node_at s p).count
    unfolding children
    kids_long = let a = (full_read s p).kids_long in let z = c.mapped.fit p low in omega (arith, length-take (node_at s p).count (node_at s p).kids)

    pub next_long : length (next g p) ≡ (node_at s p).count
    next_long = ap length next_kids ∙ (length-map (children (node_at s p)) _ ∙ kids_long)

    pub next_at : (i : ℕ) → i < (node_at s p).count → get_or (next g p) i 0 ≡ get_or b p 0 + get_or (node_at s p).kids i 0
    unfolding children
    next_at i k = rw next_kids (get_d_map _ (children (node_at s p)) i 0 0 (omega (arith, kids_long)) ∙ ap (λ (x : ℕ). get_or b p 0 + x) (get_or-take (node_at s p).count (node_at s p).kids i 0 k))

-- THE FINISH --------------------------------------------------------------------------------------

module _ {s b f v u : List ℕ} {d m i p : ℕ} {g : List Node} {path : List ℕ} {t : State} (a : Gone s b f v u d m i g (p ∷ path) (next g p) t) (low : p < length b) (all : length (next g p) ≤ i) where
  -- all that hangs below is finished, and p is not replaced
  pub pushing : ¬ Memᴰ p path → replaced_by g p ≡ None → Pushing s b v u m p g path a.state
  pushing new e = record {
    mapped = a.stands.charted.mapped;
    fine = a.stands.fine;
    holds = a.stands.holds;
    counted = a.stands.counted;
    below = low;
    new = new;
    kept = e;
    ended = gone_all a all;
  }

  -- and then it is finished itself
  pub finishes : {v' u' : List ℕ} (r : ℕ) → (r ≡ length (finish g p a.state).merged) × Holds g v' u' (length b) path (finish g p a.state) → Comes g v' u' (length b) path (under g d path p t) (Ok r)
  unfolding under come_of told_by onward
  finishes {v'} {u'} r (e, h) =
      let z : under g d path p t ≡ going (finish g p a.state) = rw (gone_done a all) refl in
      rw z (record { answer = ap (λ (k : ℕ). Ok k) e; told = tt; came = λ j y. from j y })
    where
      from : (j : State) → going (finish g p a.state) ≡ going j → Holds g v' u' (length b) path j
      from j y = let x : finish g p a.state ≡ j = cc in rw (sym x) h

  -- with its replacement's id
  pub inheriting : (q : ℕ) → replaced_by g p ≡ Some q → Memᴰ q (next g p) → Comes g (set v p (get_or v q 0)) u (length b) path (under g d path p t) (Ok m)
  inheriting q e k =
      let (x, y) = inherits a.stands.fine a.stands.holds low e (gone_all a all q k) in
      finishes m (a.stands.counted ∙ x, y)
