-- How the lists of a walk hold its state: the words of positions; and what a walk that goes over the same lists keeps.
-- Assumes nothing.
use Prim.Native.Nat.{ℕ, ◌+◌, ◌<◌}
use mathlib.Core.Path.{◌≡◌, refl, ◌∙◌}
use mathlib.Core.Bool.{Bool, true, false}
use mathlib.Core.List.Memᴰ
use mathlib.Core.List.{List, ◌∷◌, Memᴰ}
use mathlib.Core.Logic.{◌≢◌}
use Rattle.std.specs.Prelude.{Option, Some, None, Result}
use native.Mathlib.Omega.{arith}
use borrow.Author.Tests.{eq-eqb, ne_eqb}
use lib.ListN.{length, get_or}
use Rattle.record.specs.Node.{children}
use Rattle.record.specs.declared.Node.{Node}
use Rattle.forest.specs.Graph.{at, next, listed, replaced_by}
use Rattle.forest.specs.Lists.{has}
use Rattle.forest.specs.Walk.{State, Walked, id_in, or_none, id_of}
use Rattle.claims.specs.Sound.{Finished, in_id_in}
use Rattle.merger.specs.Walking.{word, Holds, Stands, Pushing, Kept, Comes}
use Rattle.merger.specs.declared.merging.Walk.{Walk}

-- WORDS -------------------------------------------------------------------------------------------

pub word_unseen : (o : Option ℕ) (b : Bool) → word o b ≡ 0 → (o ≡ None) × (b ≡ false)
unfolding word
word_unseen (Some i) b e = absurd (omega arith)
word_unseen None true e = absurd (omega arith)
word_unseen None false e = (refl, refl)

pub word_open : (o : Option ℕ) (b : Bool) → word o b ≡ 1 → (o ≡ None) × (b ≡ true)
unfolding word
word_open (Some i) b e = absurd (omega arith)
word_open None true e = (refl, refl)
word_open None false e = absurd (omega arith)

pub word_finished : (o : Option ℕ) (b : Bool) → 1 < word o b → (i : ℕ) × (o ≡ Some i) × (word o b ≡ i + 2)
unfolding word
word_finished (Some i) b h = (i, refl, refl)
word_finished None true h = absurd (omega arith)
word_finished None false h = absurd (omega arith)

pub word_one : word None true ≡ 1
unfolding word
word_one = refl

pub word_some : (o : Option ℕ) (b : Bool) (i : ℕ) → o ≡ Some i → word o b ≡ i + 2
unfolding word
word_some o b i e = rw e

-- a finished position's word
pub word_of : {g : List Node} {v u : List ℕ} {n : ℕ} {path : List ℕ} {t : State} → Holds g v u n path t → (x : ℕ) → x < n → Finished t x → get_or v x 0 ≡ id_of t x + 2
unfolding id_of or_none
word_of {t = t} h x l f = let (i, e) = in_id_in t.done x f in h.states x l ∙ (word_some _ _ i e ∙ rw e refl)

-- another position is open as before
pub has_other : (x p : ℕ) (path : List ℕ) → x ≢ p → has x (p ∷ path) ≡ has x path
unfolding has
has_other x p path h = rw (ne_eqb x p h)

pub has_self : (p : ℕ) (path : List ℕ) → has p (p ∷ path) ≡ true
unfolding has
has_self p path = rw (eq-eqb p p refl)

-- ids once one more is given
pub id_in_same : (d : List (ℕ × ℕ)) (p i : ℕ) → id_in ((p, i) ∷ d) p ≡ Some i
unfolding id_in
id_in_same d p i = rw (eq-eqb p p refl, id_in)

pub id_in_other : (d : List (ℕ × ℕ)) (p i x : ℕ) → x ≢ p → id_in ((p, i) ∷ d) x ≡ id_in d x
unfolding id_in
id_in_other d p i x h = rw (ne_eqb x p h, id_in)

-- THE GRAPH ---------------------------------------------------------------------------------------

-- a child is among what hangs below
pub child_next : (g : List Node) (p c : ℕ) → Memᴰ c (children (at g p)) → Memᴰ c (next g p)
unfolding next
child_next g p c m = Memᴰ.append_left (listed (replaced_by g p)) m

-- WALKS OVER THE SAME LISTS -----------------------------------------------------------------------

pub kept_same : (x : Walk) → Kept x x
kept_same x = record { nodes = refl; bases = refl; shelf = refl; states = refl; sources = refl }

pub kept_again : {x y z : Walk} → Kept x y → Kept y z → Kept x z
kept_again a b = record { nodes = b.nodes ∙ a.nodes; bases = b.bases ∙ a.bases; shelf = b.shelf ∙ a.shelf; states = b.states ∙ a.states; sources = b.sources ∙ a.sources }

module _ {x y : Walk} (k : Kept x y) {g : List Node} {path : List ℕ} where
  pub stands_kept : {v u : List ℕ} {m : ℕ} {t : State} → Stands x.nodes.now x.bases.now x.shelf.now v u m g path t → Stands y.nodes.now y.bases.now y.shelf.now v u m g path t
  stands_kept q = rw (k.nodes, k.bases, k.shelf) q

  pub pushing_kept : {v u : List ℕ} {m p : ℕ} {t : State} → Pushing x.nodes.now x.bases.now v u m p g path t → Pushing y.nodes.now y.bases.now v u m p g path t
  pushing_kept q = rw (k.nodes, k.bases) q

  -- what comes of y comes of x
  pub walks_kept : {v u : List ℕ} {o : Walked} {r : Result ℕ ℕ} → Comes g v u (length y.bases.now) path o r → Comes g v u (length x.bases.now) path o r
  walks_kept w = rw (← k.bases) w

  pub holds_kept : {v u : List ℕ} {t : State} → Holds g v u (length y.bases.now) path t → Holds g v u (length x.bases.now) path t
  holds_kept h = rw (← k.bases) h
