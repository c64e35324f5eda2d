-- Laws of counting off: what one count less, a settled id and an appended id make of what the ids wait for.
-- Assumes nothing.
use Prim.Native.Nat.{ℕ, suc, ◌<◌}
use mathlib.Core.Path.{◌≡◌, ◌∙◌}
use mathlib.Core.Bool.{true, false, not, ◌&&◌}
use mathlib.Core.List.{List}
use mathlib.Core.Logic.{◌≢◌}
use native.Mathlib.Omega.{arith}
use native.Mathlib.Decide.{ℕ_discrete}
use lib.Dec.{eqb}
use borrow.Author.Tests.{ne_eqb}
use lib.ListN.{length, get_or}
use Rattle.record.specs.Node.{is_internal}
use Rattle.record.specs.declared.Node.{Node}
use Rattle.forest.specs.Graph.{at}
use Rattle.forest.specs.Lists.{has}
use Rattle.ready.specs.Tree.{member}
use Rattle.dense_order.specs.State.{Counts, Resolved}

-- what is counted off of f is f'
pub counts_resolved : (g : List Node) (cs cs' rs rs' : List ℕ) (n : ℕ) (o : List ℕ) (f f' : ℕ → ℕ) (p : ℕ) → p < n → Counts g cs rs n o f → length cs' ≡ length cs → Resolved cs cs' rs rs' n p
    → is_internal (at g p) ≡ true → has p o ≡ false → f p ≡ suc (f' p) → ((j : ℕ) → j ≢ p → f j ≡ f' j) → Counts g cs' rs' n o f'
counts_resolved g cs cs' rs rs' n o f f' p h c l r i a e d = record {
  long = l ∙ c.long;
  counts = λ j k. count j k (ℕ_discrete j p);
  tree = r.tree;
  members = λ j k. joined j k (ℕ_discrete j p);
}
  where
    own_count : get_or cs' p 0 ≡ f' p
    own_count = let x = r.count in let y = c.counts p h in omega arith

    count : (j : ℕ) → j < n → Dec (j ≡ p) → get_or cs' j 0 ≡ f' j
    count j k (yes q) = rw q own_count
    count j k (no q) = r.counts j k q ∙ (c.counts j k ∙ d j q)

    joined : (j : ℕ) → j < n → Dec (j ≡ p) → member rs' n j ≡ (is_internal (at g j) && (not (has j o) && eqb (f' j) 0))
    joined j k (yes q) = rw (q, i, a) (r.own ∙ rw (own_count, c.members p h, i, a, e, ne_eqb (suc (f' p)) 0 (λ z. omega arith)))
    joined j k (no q) = r.others j k q ∙ (c.members j k ∙ rw (d j q))
