-- What passes Validate's tests is in canonical order already: canonicalizing it changes no id.
-- Assumes nothing.
use Prim.Native.Nat.{ℕ, zero, suc, ◌+◌, ◌-◌, ◌<◌, ◌≤◌}
use Rattle.std.specs.Prelude.{◌≡◌, Bool, not, ◌&&◌, ◌⊎◌, ◌≢◌, leb, eqb, get_or, Some, None}
use Rattle.std.proofs.Math.Path.{refl}
use Rattle.std.proofs.Common.{sym, ◌∙◌, ap, inl, inr}
use Rattle.std.proofs.Math.Bool.{true, false}
use mathlib.Core.List.Memᴰ
use mathlib.Core.List.{List, [], ◌∷◌, ◌++◌, map, Memᴰ}
use native.Mathlib.Omega.{arith}
use borrow.Author.Tests.{leb-false, eqb-false, eq-eqb, ne_eqb}
use Rattle.std.proofs.Math.ListN.{length}
use Rattle.record.specs.Lists.{run, all}
use Rattle.record.specs.Node.{rank, class, is_external, is_block, is_internal, children}
use Rattle.record.specs.Order.{before}
use Rattle.record.specs.declared.Node.{Node}
use Rattle.record.proofs.Nodes.{classes, external_rank, block_rank, internal_rank, rank_external, rank_block, rank_internal}
use Rattle.record.proofs.Orders.{before_asym}
use Rattle.forest.specs.Graph.{no_node, at}
use Rattle.forest.specs.Lent.{first}
use Rattle.forest.specs.Lists.{has, keep, lowest}
use Rattle.forest.specs.Order.{ids, lower, externals, blocks, ready, released, begun, order, place_in}
use Rattle.forest.specs.Validate.{forward, fault, faults, node_faults}
use Rattle.forest.specs.Walk.{or_none}
use Rattle.claims.specs.Checks.{first_none, naming_none}
use Rattle.claims.specs.Children.{parent_below}
use Rattle.claims.specs.Externals.{apart}
use Rattle.claims.specs.Passing.{May, none_fault}
use Rattle.claims.specs.Paths.{HasChild, Steps, one, more, Orderly}
use Rattle.claims.specs.Releases.{in_externals}
use Rattle.claims.specs.Searches.{has_in, in_has, true_all, last_of_none, none_lowest, lowest_at}
use Rattle.claims.specs.Sorts.{Linked, linked_nil, linked_one, linked, linked_rest, run_in, in_run, linked_run, run_snoc, run_append, run_begin, in_keep, sort_id}

-- FROM VALIDATE'S FAULTS TO POSITIONS -----------------------------------------------------------

faults_at : (i : ℕ) (n : Node) (ms : List Node) (d : Node) → first (faults i n ms) ≡ None → (j : ℕ) → j < length ms → fault (i + j) (get_or (n ∷ ms) j d) (get_or ms j d) ≡ None
unfolding faults
faults_at i n [] d e j h = absurd (omega arith)
faults_at i n (m ∷ ms) d e zero h = let q : i + 0 ≡ i = omega arith in rw q (first_none _ _ e).0
faults_at i n (m ∷ ms) d e (suc j) h = let q : i + suc j ≡ suc i + j = omega arith in rw q (faults_at (suc i) m ms d (first_none _ _ e).1 j (omega arith))

-- passed by Validate, position by position
pub record Valid (g : List Node) : Type 0 where
  pub follows : (p : ℕ) → suc p < length g → May g p (suc p)
  pub kids : (p c : ℕ) → HasChild g p c → c < p

pub valid : (g : List Node) → first (node_faults g) ≡ None → Valid g
unfolding node_faults forward at no_node children
valid [] e = record { follows = λ p h. absurd (omega arith); kids = λ p c k. absurd (Memᴰ.not-nil k) }
valid (m ∷ ms) e = record { follows = λ p h. follow p (facts p (omega arith)); kids = λ p c k. kid p c k (parent_below (m ∷ ms) p c k) }
  where
    facts : (p : ℕ) → p < length ms → (rank (class (at (m ∷ ms) p)) ≤ rank (class (at (m ∷ ms) (suc p)))) × (is_external (at (m ∷ ms) p) ≡ true → is_external (at (m ∷ ms) (suc p)) ≡ true → before (at (m ∷ ms) p).digest (at (m ∷ ms) (suc p)).digest ≡ true) × ((c : ℕ) → HasChild (m ∷ ms) (suc p) c → c < 1 + p)
    facts p h = none_fault (1 + p) _ _ (faults_at 1 m ms no_node (first_none _ _ e).1 p h)

    follow : (p : ℕ) → (rank (class (at (m ∷ ms) p)) ≤ rank (class (at (m ∷ ms) (suc p)))) × (is_external (at (m ∷ ms) p) ≡ true → is_external (at (m ∷ ms) (suc p)) ≡ true → before (at (m ∷ ms) p).digest (at (m ∷ ms) (suc p)).digest ≡ true) × ((c : ℕ) → HasChild (m ∷ ms) (suc p) c → c < 1 + p) → May (m ∷ ms) p (suc p)
    follow p f = record { classed = f.0; sorted = f.1 }

    kid : (p c : ℕ) → HasChild (m ∷ ms) p c → p < length (m ∷ ms) → c < p
    kid zero c k h = leb-false 0 c (last_of_none (leb 0) (children m) (naming_none _ _ (first_none _ _ e).0) c k)
    kid (suc p) c k h = let q = (facts p (omega arith)).2 c k in omega arith

-- the place of a number in a run from 0 is the number
pub place_run : (n p : ℕ) → p < n → place_in (run 0 n) p ≡ p
unfolding place_in or_none
place_run n p h = rw (lowest_at (eqb p) 0 n p (λ x k. ne_eqb p x (λ e. omega arith)) (eq-eqb p (0 + p) (omega arith)) h)

-- THE CLASSES OF A VALID FOREST -----------------------------------------------------------------

module _ (g : List Node) where
  ahead : (x : ℕ) (l : List ℕ) → Linked (May g) (x ∷ l) → (y : ℕ) → Memᴰ y l → rank (class (at g x)) ≤ rank (class (at g y))
  ahead x [] _ y x5 = elim x5 [ ]
  ahead x (z ∷ l) (linked r s) y (Memᴰ.head e) = rw e r.classed
  ahead x (z ∷ l) (linked r s) y (Memᴰ.tail m) = let u : rank (class (at g z)) ≤ rank (class (at g y)) = ahead z l s y m in let v = r.classed in omega arith

  keep_none : (t : ℕ → Bool) (l : List ℕ) → ((x : ℕ) → Memᴰ x l → t x ≡ false) → keep t l ≡ []
  unfolding keep
  keep_none t [] h = refl
  keep_none t (x ∷ l) h = rw (h x (Memᴰ.head refl), keep) (keep_none t l (λ y m. h y (Memᴰ.tail m)))

  ext : ℕ → Bool
  ext p = is_external (at g p)

  blk : ℕ → Bool
  blk p = is_block (at g p)

  int : ℕ → Bool
  int p = is_internal (at g p)

  -- the three tests, by the rank
  bits : (p r : ℕ) → rank (class (at g p)) ≡ r → (ext p ≡ eqb r 0) × (blk p ≡ eqb r 1) × (int p ≡ eqb r 2)
  unfolding ext blk int
  bits p r e = (external_rank (at g p) ∙ rw e, block_rank (at g p) ∙ rw e, internal_rank (at g p) ∙ rw e)

  not_ext : (p : ℕ) → 0 < rank (class (at g p)) → ext p ≡ false
  unfolding ext
  not_ext p h = external_rank (at g p) ∙ ne_eqb (rank (class (at g p))) 0 (λ e. omega arith)

  ext_not : (p : ℕ) → ext p ≡ false → 0 < rank (class (at g p))
  unfolding ext
  ext_not p e = let h : rank (class (at g p)) ≢ 0 = eqb-false (rank (class (at g p))) 0 (sym (external_rank (at g p)) ∙ e) in omega arith

  not_blk : (p : ℕ) → 1 < rank (class (at g p)) → blk p ≡ false
  unfolding blk
  not_blk p h = block_rank (at g p) ∙ ne_eqb (rank (class (at g p))) 1 (λ e. omega arith)

  -- externals, then blocks, then internals
  three : (l : List ℕ) → Linked (May g) l → (keep ext l ++ keep blk l) ++ keep int l ≡ l
  unfolding keep
  three [] s = refl
  three (x ∷ l) s = go (classes (at g x)) (three l (linked_rest s))
    where
      go : (is_external (at g x) ≡ true) ⊎ ((is_block (at g x) ≡ true) ⊎ (is_internal (at g x) ≡ true)) → (keep ext l ++ keep blk l) ++ keep int l ≡ l → (keep ext (x ∷ l) ++ keep blk (x ∷ l)) ++ keep int (x ∷ l) ≡ x ∷ l
      go (inl e) ih = let (a, b, c) = bits x 0 (rank_external _ e) in rw (a, b, c, keep) (ap {B = List ℕ} (λ k. x ∷ k) ih)
      go (inr (inl e)) ih =
          let q : rank (class (at g x)) ≡ 1 = rank_block _ e in
          let (a, b, c) = bits x 1 q in
          let z : keep ext l ≡ [] = keep_none ext l (λ y m. let u = ahead x l s y m in not_ext y (omega arith)) in
          let j : keep blk l ++ keep int l ≡ l = rw z at ih in
          rw (a, b, c, keep, z) (ap {B = List ℕ} (λ k. x ∷ k) j)
      go (inr (inr e)) ih =
          let q : rank (class (at g x)) ≡ 2 = rank_internal _ e in
          let (a, b, c) = bits x 2 q in
          let z : keep ext l ≡ [] = keep_none ext l (λ y m. let u = ahead x l s y m in not_ext y (omega arith)) in
          let w : keep blk l ≡ [] = keep_none blk l (λ y m. let u = ahead x l s y m in not_blk y (omega arith)) in
          let j : keep int l ≡ l = rw (z, w) at ih in
          rw (a, b, c, keep, z, w) (ap {B = List ℕ} (λ k. x ∷ k) j)

  -- the externals go each before the next
  ext_linked : (l : List ℕ) → Linked (May g) l → Linked (λ p q. lower g p q ≡ true) (keep ext l)
  unfolding keep ext lower
  ext_linked [] s = linked_nil
  ext_linked (x ∷ []) s = go (ext x) refl
    where
      go : (b : Bool) → ext x ≡ b → Linked (λ p q. lower g p q ≡ true) (keep ext (x ∷ []))
      go true e = rw (e, keep) linked_one
      go false e = rw (e, keep) linked_nil
  ext_linked (x ∷ y ∷ l) (linked r s) = go (ext x) refl (ext y) refl (ext_linked (y ∷ l) s)
    where
      Goal : List ℕ → Type 0
      Goal k = Linked (λ p q. lower g p q ≡ true) k

      above : ext y ≡ false → keep ext l ≡ []
      above f = keep_none ext l (λ z m. let u = ahead y l s z m in let w = ext_not y f in not_ext z (omega arith))

      go : (b : Bool) → ext x ≡ b → (c : Bool) → ext y ≡ c → Goal (keep ext (y ∷ l)) → Goal (keep ext (x ∷ y ∷ l))
      go true e true f ih = rw (e, f, keep) (linked (r.sorted e f) (rw (f, keep) at ih))
      go true e false f ih = rw (e, f, keep, above f) linked_one
      go false e c f ih = rw (e, keep) ih

  module _ (v : Valid g) where
    all_linked : Linked (May g) (run 0 (length g))
    all_linked = linked_run 0 (length g) (λ j h. v.follows j (omega arith))

    externals_kept : externals g ≡ keep ext (run 0 (length g))
    unfolding externals ids ext lower
    externals_kept = sort_id _ (λ p q. before_asym (at g p).digest (at g q).digest) (ext_linked (run 0 (length g)) all_linked)

    -- the externals and blocks are the first numbers
    begun_run : (begun g ≡ run 0 (length (begun g))) × (length (begun g) ≤ length g)
    unfolding begun blocks ids blk
    begun_run = run_begin (begun g) (keep int (run 0 (length g))) 0 (length g) (rw externals_kept (three (run 0 (length g)) all_linked))

    -- what is not among them is internal
    late_internal : (x : ℕ) → x < length g → length (begun g) ≤ x → is_internal (at g x) ≡ true
    unfolding begun blocks ids
    late_internal x h k = go (classes (at g x))
      where
        not_begun : Memᴰ x (begun g) → ⊥
        not_begun m = let (a, b) = run_in 0 (length (begun g)) x (rw begun_run.0 at m) in omega arith

        go : (is_external (at g x) ≡ true) ⊎ ((is_block (at g x) ≡ true) ⊎ (is_internal (at g x) ≡ true)) → is_internal (at g x) ≡ true
        go (inl e) = absurd (not_begun (Memᴰ.append_left (blocks g) (in_externals g x h e)))
        go (inr (inl e)) = absurd (not_begun (Memᴰ.append_right (externals g) (in_keep _ (run 0 (length g)) x (in_run 0 (length g) x (omega arith) (omega arith)) e)))
        go (inr (inr e)) = e

    ready_before : (k x : ℕ) → x < k → ready g (run 0 k) x ≡ false
    unfolding ready
    ready_before k x h = go (is_internal (at g x))
      where
        go : (b : Bool) → (b && (not (has x (run 0 k)) && all (λ c. has c (run 0 k)) (children (at g x)))) ≡ false
        go true = rw (in_has x (run 0 k) (in_run 0 k x (omega arith) (omega arith)))
        go false = refl

    not_has : (k : ℕ) → has k (run 0 k) ≡ false
    not_has k = go (has k (run 0 k)) refl
      where
        go : (b : Bool) → has k (run 0 k) ≡ b → has k (run 0 k) ≡ false
        go true e = let (a, b) = run_in 0 k k (has_in k (run 0 k) e) in absurd (omega arith)
        go false e = e

    ready_next : (k : ℕ) → k < length g → length (begun g) ≤ k → ready g (run 0 k) k ≡ true
    unfolding ready
    ready_next k h j = rw (late_internal k h j, not_has k) (true_all (λ c. has c (run 0 k)) (children (at g k)) (λ c m. in_has c (run 0 k) (let q = v.kids k c m in in_run 0 k c (omega arith) (omega arith))))

    released_run : (m k j : ℕ) → k + j ≡ length g → j ≤ m → length (begun g) ≤ k → released g m (run 0 k) ≡ run k j
    unfolding released run ids
    released_run zero k zero e h b = refl
    released_run zero k (suc j) e h b = absurd (omega arith)
    released_run (suc m) k zero e h b = rw (none_lowest (ready g (run 0 k)) (ids g) (λ x n. let (p, q) = run_in 0 (length g) x n in ready_before k x (omega arith)), released)
    released_run (suc m) k (suc j) e h b =
        let f : lowest (ready g (run 0 k)) (ids g) ≡ Some k = lowest_at (ready g (run 0 k)) 0 (length g) k (λ x n. ready_before k x (omega arith)) (let z : 0 + k ≡ k = omega arith in rw z (ready_next k (omega arith) b)) (omega arith) in
        let s : run 0 k ++ k ∷ [] ≡ run 0 (suc k) = (let z : 0 + k ≡ k = omega arith in rw z at (run_snoc 0 k)) in
        rw (f, released, s) (ap {B = List ℕ} (λ l. k ∷ l) (released_run m (suc k) j (omega arith) (omega arith) (omega arith)))

    -- a valid forest is in canonical order
    pub order_ids : order g ≡ ids g
    unfolding order ids
    order_ids = let (e, h) = begun_run in go (length (begun g)) (length g - length (begun g)) (omega arith) e (omega arith)
      where
        go : (k j : ℕ) → k + j ≡ length g → begun g ≡ run 0 k → length (begun g) ≤ k → begun g ++ released g (length g) (begun g) ≡ run 0 (length g)
        go k j q e h =
            let r : released g (length g) (run 0 k) ≡ run k j = released_run (length g) k j q (omega arith) h in
            let z : 0 + k ≡ k = omega arith in
            let s : run 0 k ++ run k j ≡ run 0 (k + j) = rw z at (run_append 0 k j) in
            rw (e, r, s, q)

-- canonicalizing a valid forest again changes no id
map_place : (n : ℕ) (l : List ℕ) → ((x : ℕ) → Memᴰ x l → x < n) → map (place_in (run 0 n)) l ≡ l
map_place n [] h = refl
map_place n (x ∷ l) h = rw (place_run n x (h x (Memᴰ.head refl)), map_place n l (λ y m. h y (Memᴰ.tail m)))

pub ids_stay : (g : List Node) → first (node_faults g) ≡ None → map (place_in (order g)) (ids g) ≡ ids g
unfolding ids
ids_stay g e = rw (order_ids g (valid g e)) (map_place (length g) (run 0 (length g)) (λ x m. let (a, b) = run_in 0 (length g) x m in omega arith))

-- a valid forest is orderly
pub valid_orderly : (g : List Node) → Valid g → Orderly g
unfolding lower
valid_orderly g v = record {
  differ = λ p q a b x y e. apart g (externals g) (rw (externals_kept g v) (ext_linked g (run 0 (length g)) (all_linked g v))) p q (in_externals g p a x) (in_externals g q b y) e;
  inside = λ p c k. let q = v.kids p c k in let h = parent_below g p c k in omega arith;
  acyclic = λ p s. let h = down s in omega arith;
}
  where
    down : {p q : ℕ} → Steps (HasChild g) p q → q < p
    down (one k) = v.kids _ _ k
    down (more s k) = let a = down s in let b = v.kids _ _ k in omega arith
