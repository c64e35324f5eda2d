-- Laws of enlisting all ids, and of what is then open.
-- Assumes nothing.
use Prim.Native.Nat.{ℕ, ◌+◌, ◌*◌, ◌<◌, ◌≤◌}
use mathlib.Core.Path.{◌≡◌, refl, sym, ◌∙◌, ap, subst}
use mathlib.Core.Bool.{Bool, true, false, not, ◌&&◌, ◌||◌}
use mathlib.Core.List.{List, [], ◌∷◌}
use native.Mathlib.Omega.{arith}
use native.Mathlib.Decide.{ℕ_discrete}
use lib.Dec.{ltb, eqb}
use borrow.Author.Tests.{ltb-true, ltb-false, eq-eqb, ne_eqb}
use lib.ListN.{length, get_or, set, length-set}
use lib.Seq.{get_or-set_same, get_or-set_other}
use Rattle.record.specs.Node.{fields, node_at, nodes_of, is_internal, children}
use Rattle.record.specs.declared.Node.{Node}
use Rattle.record.proofs.Nodes.{not_internal, length_nodes_of}
use Rattle.forest.specs.Graph.{at}
use Rattle.forest.specs.Lists.{has, keep}
use Rattle.forest.specs.Order.{begun}
use Rattle.claims.specs.Releases.{begun_distinct, begun_in}
use Rattle.claims.specs.Searches.{has_in}
use Rattle.dense_order.specs.Mentions.{prior, left}
use Rattle.ready.specs.Tree.{member, Changed}
use Rattle.ready.proofs.Trees.{empty_tree}
use Rattle.dense_order.specs.State.{Fair, Counts, Stands, Standing, Enlisted, Links}
use Rattle.dense_order.proofs.Enlisting.{node_is, count_is}

module _ {s hs ls cs rs hs₁ ls₁ : List ℕ} {n p r : ℕ} (a : Enlisted s hs ls cs rs n p) (h : p < n) (l : Links s hs₁ ls₁ n p r) where
  count_now : r ≡ length (children (at (nodes_of s) p))
  count_now = l.count ∙ sym (count_is a.chained.fair h)

  waiting_now : (j : ℕ) → j < p + 1 → get_or (set cs p r) j 0 ≡ length (children (at (nodes_of s) j))
  waiting_now j q = go (ℕ_discrete j p)
    where
      go : Dec (j ≡ p) → get_or (set cs p r) j 0 ≡ length (children (at (nodes_of s) j))
      go (yes e) = rw e (get_or-set_same cs p r 0 (let z = a.long in omega arith) ∙ count_now)
      go (no d) = get_or-set_other cs p j r 0 d ∙ a.waiting j (omega arith)

  -- p is not ready: it is no internal, or it waits
  pub enlists_plain : (is_internal (at (nodes_of s) p) && eqb (length (children (at (nodes_of s) p))) 0) ≡ false → Enlisted s hs₁ ls₁ (set cs p r) rs n (p + 1)
  enlists_plain f = record {
    chained = l.chained;
    long = length-set cs p r ∙ a.long;
    waiting = waiting_now;
    tree = a.tree;
    members = λ j q. joined j q (ℕ_discrete j p);
    idle = λ j u v. a.idle j (omega arith) v;
  }
    where
      joined : (j : ℕ) → j < p + 1 → Dec (j ≡ p) → member rs n j ≡ (is_internal (at (nodes_of s) j) && eqb (length (children (at (nodes_of s) j))) 0)
      joined j q (yes e) = rw e (a.idle p (omega arith) h ∙ sym f)
      joined j q (no d) = a.members j (omega arith)

  -- p is ready at once
  pub enlists_ready : (rs' : List ℕ) → (is_internal (at (nodes_of s) p) && eqb (length (children (at (nodes_of s) p))) 0) ≡ true → Changed true rs rs' n p → Enlisted s hs₁ ls₁ (set cs p r) rs' n (p + 1)
  enlists_ready rs' f c = record {
    chained = l.chained;
    long = length-set cs p r ∙ a.long;
    waiting = waiting_now;
    tree = c.tree;
    members = λ j q. joined j q (ℕ_discrete j p);
    idle = λ j u v. c.others j v (λ e. omega arith) ∙ a.idle j (omega arith) v;
  }
    where
      joined : (j : ℕ) → j < p + 1 → Dec (j ≡ p) → member rs' n j ≡ (is_internal (at (nodes_of s) j) && eqb (length (children (at (nodes_of s) j))) 0)
      joined j q (yes e) = rw e (c.changed ∙ sym f)
      joined j q (no d) = c.others j (omega arith) d ∙ a.members j (omega arith)

  -- the code's test
  test_is : (t : Bool) → t ≡ not (is_internal (node_at s p)) → (is_internal (at (nodes_of s) p) && eqb (length (children (at (nodes_of s) p))) 0) ≡ not (t || ltb 0 r)
  test_is t e = rw (sym count_now) (go (is_internal (at (nodes_of s) p)) refl (ltb 0 r) refl)
    where
      class_is : not (is_internal (at (nodes_of s) p)) ≡ t
      class_is = ap (λ x. not (is_internal x)) (node_is a.chained.fair h) ∙ sym e

      go : (i : Bool) → is_internal (at (nodes_of s) p) ≡ i → (b : Bool) → ltb 0 r ≡ b → (is_internal (at (nodes_of s) p) && eqb r 0) ≡ not (t || ltb 0 r)
      go true i true b = let z : 0 < r = ltb-true 0 r b in rw (sym class_is, i, b, ne_eqb r 0 (λ q. omega arith))
      go true i false b = let z : r ≤ 0 = ltb-false 0 r b in rw (sym class_is, i, b, eq-eqb r 0 (omega arith))
      go false i b c = rw (sym class_is, i)

  pub test_plain : (t : Bool) → t ≡ not (is_internal (node_at s p)) → (t || ltb 0 r) ≡ true → (is_internal (at (nodes_of s) p) && eqb (length (children (at (nodes_of s) p))) 0) ≡ false
  test_plain t e u = test_is t e ∙ rw u

  pub test_ready : (t : Bool) → t ≡ not (is_internal (node_at s p)) → (t || ltb 0 r) ≡ false → (is_internal (at (nodes_of s) p) && eqb (length (children (at (nodes_of s) p))) 0) ≡ true
  test_ready t e u = test_is t e ∙ rw u

-- ALL IDS -----------------------------------------------------------------------------------------

-- slices of zeros
pub enlisted_start : {s hs ls cs rs : List ℕ} {n : ℕ} → Fair s n → length hs ≡ n → fields * n ≤ length ls → length cs ≡ n → n + n ≤ length rs
    → ((y : ℕ) → y < n → get_or hs y 0 ≡ 0) → ((y : ℕ) → y < n + n → get_or rs y 0 ≡ 0) → Enlisted s hs ls cs rs n 0
unfolding prior
enlisted_start {s} {hs} {ls} {cs} {rs} {n} f a b c d heads rows =
    let (t, m) = empty_tree rs n d rows in
    let z : fields * 0 ≡ 0 = omega arith in
    record {
      chained = record { fair = f; heads_long = a; links_long = b; linked = rw z (record { heads = λ y q. heads y q; links = λ y e q v. absurd (omega arith) }) };
      long = c;
      waiting = λ j q. absurd (omega arith);
      tree = t;
      members = λ j q. absurd (omega arith);
      idle = λ j u v. m j v;
    }

left_nil : (g : List Node) (p : ℕ) → left g p [] ≡ length (children (at g p))
unfolding left keep has
left_nil g p = ap length (go (children (at g p)))
  where
    go : (l : List ℕ) → keep (λ c. not (has c [])) l ≡ l
    go [] = refl
    go (x ∷ l) = ap {B = List ℕ} (λ k. x ∷ k) (go l)

-- no internal is among externals and blocks
not_begun : (g : List Node) (p : ℕ) → is_internal (at g p) ≡ true → has p (begun g) ≡ false
not_begun g p i = go (has p (begun g)) refl
  where
    go : (b : Bool) → has p (begun g) ≡ b → has p (begun g) ≡ false
    go true e = absurd (not_internal (at g p) (begun_in g p (has_in p (begun g) e)).0 i)
    go false e = e

-- nothing of the order is settled yet
module _ {s hs ls cs rs : List ℕ} {n : ℕ} (e : Enlisted s hs ls cs rs n n) where
  counts_open : Counts (nodes_of s) cs rs n (begun (nodes_of s)) (λ p. left (nodes_of s) p [])
  counts_open = record {
    long = e.long;
    counts = λ j q. e.waiting j q ∙ sym (left_nil (nodes_of s) j);
    tree = e.tree;
    members = λ j q. e.members j q ∙ joined j (is_internal (at (nodes_of s) j)) refl;
  }
    where
      joined : (j : ℕ) (i : Bool) → is_internal (at (nodes_of s) j) ≡ i
          → (is_internal (at (nodes_of s) j) && eqb (length (children (at (nodes_of s) j))) 0) ≡ (is_internal (at (nodes_of s) j) && (not (has j (begun (nodes_of s))) && eqb (left (nodes_of s) j []) 0))
      joined j true i = rw (i, not_begun (nodes_of s) j i, left_nil (nodes_of s) j)
      joined j false i = rw i

  stands_open : Stands s hs ls cs rs n (begun (nodes_of s)) []
  stands_open = record {
    chained = e.chained;
    distinct = begun_distinct (nodes_of s);
    below = λ x m. let z = (begun_in (nodes_of s) x m).1 in let y = length_nodes_of s in let v = e.chained.fair.counted in omega arith;
    closed = λ x m i. absurd (not_internal (at (nodes_of s) x) (begun_in (nodes_of s) x m).0 i);
    counts = counts_open;
  }

  pub opens : (o : List ℕ) → o ≡ begun (nodes_of s) → length o ≤ n → Standing s o hs ls cs rs n 0
  opens o f g = record { upto = omega arith; some = g; stands = rw f stands_open }

-- all ids are enlisted
pub enlisted_all : {s hs ls cs rs : List ℕ} {n p : ℕ} → Enlisted s hs ls cs rs n p → n ≤ p → p ≤ n → Enlisted s hs ls cs rs n n
enlisted_all {s} {hs} {ls} {cs} {rs} {n} {p} e u v = let z : p ≡ n = omega arith in subst (λ (k : ℕ). Enlisted s hs ls cs rs n k) z e
