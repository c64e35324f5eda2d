-- Laws of the checks node by node.
-- Assumes nothing.
use Prim.Native.Nat.{ℕ, zero, suc, ◌+◌, ◌-◌, ◌/◌, ◌<◌, ◌≤◌}
use mathlib.Core.Path.{◌≡◌, refl}
use mathlib.Core.Bool.{Bool, true, false, not, ◌&&◌, ◌||◌}
use mathlib.Core.List.{List, [], ◌∷◌}
use Rattle.std.specs.Prelude.{Option, Some, None, Ok, Err}
use native.Mathlib.Omega.{arith}
use native.Mathlib.Numerals.{add-one}
use lib.Dec.{leb, ltb, eqb}
use lib.ListN.{length}
use Rattle.record.specs.Node.{size, node_at, nodes_of, children, class, rank, is_external}
use Rattle.record.specs.Order.{compared, is_less, before}
use Rattle.record.specs.declared.Class.{Class}
use Rattle.record.specs.declared.Class.TheVariants.{External, Block, Internal}
use Rattle.record.specs.declared.Node.{Node}
use Rattle.record.proofs.Basics.{clash}
use Rattle.std.specs.Ordering.{is_lt}
use Rattle.std.specs.declared.cmp.Ordering.{Ordering}
use Rattle.std.specs.declared.cmp.Ordering.TheVariants.{Less, Equal, Greater}
use Rattle.forest.specs.Lists.{last_of}
use Rattle.forest.specs.Lent.{when, naming, first}
use Rattle.forest.specs.Validate.{forward, fault, faults, node_faults}
use Rattle.forest.specs.declared.Reply.{Reply}
use Rattle.forest.specs.declared.Reply.TheVariants.{ClassOrder, DigestOrder, ForwardReference}
use Rattle.dense_order.specs.Found.{Checked, check_of}
use Rattle.dense_order.specs.Faults.{fault_at}
use Rattle.dense_order.proofs.Options.{refused_some, passed_none}
use Rattle.dense_order.proofs.Rest.{nodes_from, rest_all, rest_step, rest_end}

-- ONE NODE ----------------------------------------------------------------------------------------

-- what is no external need not rise; of an external, it is told by how the digests x and y that were read compare
pub rises_other : (k : Class) (x : Bool) → eqb (rank k) (rank External) ≡ false → true ≡ (not (eqb (rank k) (rank External)) || x)
rises_other k x h = rw h

pub rises_compared : (k : Class) {a b x y : List ℕ} → eqb (rank k) (rank External) ≡ true → x ≡ a → y ≡ b → (o : Ordering) (r : Bool) → o ≡ compared x y → r ≡ is_lt o → r ≡ (not (eqb (rank k) (rank External)) || before a b)
unfolding before is_less
rises_compared k z p q Less r e h = rw (z, ← p, ← q, ← e) h
rises_compared k z p q Equal r e h = rw (z, ← p, ← q, ← e) h
rises_compared k z p q Greater r e h = rw (z, ← p, ← q, ← e) h

module _ (i : ℕ) {n m : Node} (a : n ≡ m) where
  pub forward_child_lem : (c : ℕ) → (last_of (leb i) (children n)) ≡ Some c → Err (ForwardReference i c) ≡ check_of (forward i m)
  unfolding forward naming check_of
  forward_child_lem c e = rw (← a, e)

  pub forward_none : (last_of (leb i) (children n)) ≡ None → (Ok tt) ≡ check_of (forward i m)
  unfolding forward naming check_of
  forward_none e = rw (← a, e)

first_one : (o : Option Reply) → first (o ∷ []) ≡ o
unfolding first
first_one None = refl
first_one (Some r) = refl

-- what Validate asks of two digests, by the test of the code, where the class does not fall
digest_test : (j k : Class) (x : Bool) → ltb (rank k) (rank j) ≡ false → (eqb (rank k) (rank External) && (eqb (rank j) (rank External) && not x)) ≡ not (not (eqb (rank k) (rank External)) || x)
unfolding rank
digest_test External External x e = refl
digest_test Block External x e = absurd (clash (cc))
digest_test Internal External x e = absurd (clash (cc))
digest_test j Block x e = refl
digest_test j Internal x e = refl

-- k and j are the classes of m and of n, which stands before it
module _ (i : ℕ) (n m : Node) (j k : Class) (p : k ≡ class m) (q : j ≡ class n) where
  pub fault_class : ltb (rank k) (rank j) ≡ true → Err (ClassOrder i) ≡ check_of (fault i n m)
  unfolding fault first when check_of
  fault_class h = rw (← p, ← q, h)

  -- b says whether m is no external or its digest is above that of n
  module _ (h : ltb (rank k) (rank j) ≡ false) (b : Bool) (d : b ≡ (not (eqb (rank k) (rank External)) || before n.digest m.digest)) where
    tested : (is_external m && (is_external n && not (before n.digest m.digest))) ≡ not b
    unfolding is_external
    tested = rw (← p, ← q, digest_test j k _ h, ← d)

    pub fault_digest : b ≡ false → Err (DigestOrder i) ≡ check_of (fault i n m)
    unfolding fault first when check_of
    fault_digest e = rw (tested, ← p, ← q, h, e)

    pub fault_forward : (r : Checked Unit) → b ≡ true → r ≡ check_of (forward i m) → r ≡ check_of (fault i n m)
    unfolding fault first when
    fault_forward r e f = rw (tested, ← p, ← q, h, e, first_one (forward i m)) f

-- NODE BY NODE ------------------------------------------------------------------------------------

module _ (s : List ℕ) where
  pub fault_first : (i : ℕ) → i ≡ 0 → forward i (node_at s i) ≡ fault_at s i
  unfolding fault_at
  fault_first i e = rw e

  pub fault_next : (i : ℕ) → (i ≡ 0 → ⊥) → fault i (node_at s (i - 1)) (node_at s i) ≡ fault_at s i
  unfolding fault_at
  fault_next zero h = absurd (h refl)
  fault_next (suc j) h = let e : suc j - 1 ≡ j = omega arith in rw e

  -- what is wrong with the records from number i on
  pub faults_from : ℕ → List (Option Reply)
  faults_from zero = node_faults (nodes_from s zero)
  faults_from (suc j) = faults (suc j) (node_at s j) (nodes_from s (suc j))

  faults_step : (i : ℕ) → i < length s / size → faults_from i ≡ fault_at s i ∷ faults_from (i + 1)
  unfolding faults_from fault_at node_faults faults
  faults_step zero h = rw (rest_step s 0 h)
  faults_step (suc j) h = rw (rest_step s (suc j) h, add-one)

  faults_end : (i : ℕ) → length s / size ≤ i → faults_from i ≡ []
  unfolding faults_from node_faults faults
  faults_end zero h = rw (rest_end s 0 h)
  faults_end (suc j) h = rw (rest_end s (suc j) h)

  -- the nodes before i pass
  pub record Ordered (i : ℕ) : Type 0 where
    pub pass : first (node_faults (nodes_of s)) ≡ first (faults_from i)

  pub ordered_start : Ordered 0
  unfolding faults_from
  ordered_start = record { pass = rw (rest_all s) }

  module _ (i : ℕ) (k : Ordered i) where
    module _ (h : i < length s / size) where
      pub next_refused : (r : Reply) → check_of (fault_at s i) ≡ Err r → Err r ≡ check_of (first (node_faults (nodes_of s)))
      unfolding first check_of
      next_refused r e = rw (k.pass, faults_step i h, refused_some (fault_at s i) r e)

      pub next_ordered : check_of (fault_at s i) ≡ (Ok tt) → Ordered (i + 1)
      unfolding first
      next_ordered e = record { pass = rw (k.pass, faults_step i h, passed_none (fault_at s i) e) }

    pub all_ordered : length s / size ≤ i → (Ok tt) ≡ check_of (first (node_faults (nodes_of s)))
    unfolding first check_of
    all_ordered h = rw (k.pass, faults_end i h)
