-- Canonicalize's order: what is released, that nothing is in it twice, and that without a cycle it holds everything.
-- Assumes nothing.
use Prim.Native.Nat.{ℕ, zero, suc, ◌+◌, ◌<◌, ◌≤◌}
use Rattle.std.specs.Prelude.{◌≡◌, Bool, true, not, ◌⊎◌, Option, Some, None}
use Rattle.std.proofs.Math.Path.{refl}
use Rattle.std.proofs.Math.Bool.{false}
use mathlib.Core.List.Memᴰ
use mathlib.Core.List.{List, [], ◌∷◌, ◌++◌, Memᴰ, append-nil, append_assoc}
use Rattle.std.proofs.Math.Logic.{inl, inr}
use native.Mathlib.Omega.{arith}
use borrow.Author.Tests.{not-true}
use Rattle.std.proofs.Math.ListN.{length, length-append}
use Rattle.record.specs.Lists.{run}
use Rattle.record.specs.Node.{is_external, is_block, is_internal, children}
use Rattle.record.specs.declared.Node.{Node}
use Rattle.record.proofs.Basics.{both_true}
use Rattle.record.proofs.Lengths.{length_run}
use Rattle.record.proofs.Nodes.{classes, not_both}
use Rattle.forest.specs.Graph.{at}
use Rattle.forest.specs.Lists.{has, lowest}
use Rattle.forest.specs.Order.{ids, externals, blocks, ready, released, begun, order}
use Rattle.claims.specs.Distinct.{Distinct, empty, fresh, distinct_append, distinct_snoc, pigeonhole, pigeonhole_in}
use Rattle.claims.specs.PathLaws.{way_steps, Ends, ends}
use Rattle.claims.specs.Paths.{HasChild, Steps, Path, root, onto}
use Rattle.claims.specs.Searches.{has_in, not_in, all_true, all_false, lowest_none, lowest_ids}
use Rattle.claims.specs.Sorts.{run_in, in_run, run_distinct, keep_in, in_keep, keep_distinct, sort_in, in_sort, sort_distinct}

-- what is released, one after the other
pub data Queue (g : List Node) : List ℕ → List ℕ → Type 0 where
  idle : {o : List ℕ} → Queue g o []
  release : {o : List ℕ} {p : ℕ} {l : List ℕ} → ready g o p ≡ true → p < length g → Queue g (o ++ p ∷ []) l → Queue g o (p ∷ l)

module _ (g : List Node) where
  pub released_queue : (n : ℕ) (o : List ℕ) → Queue g o (released g n o)
  unfolding released ids
  released_queue zero o = idle
  released_queue (suc n) o = go (lowest (ready g o) (ids g)) refl (λ p. released_queue n (o ++ p ∷ []))
    where
      go : (c : Option ℕ) → lowest (ready g o) (ids g) ≡ c → ((p : ℕ) → Queue g (o ++ p ∷ []) (released g n (o ++ p ∷ []))) → Queue g o (released g (suc n) o)
      go None e ih = rw (e, released) idle
      go (Some p) e ih = let (u, v) = lowest_ids (ready g o) (length g) p e in rw (e, released) (release u v (ih p))

  -- it ends because nothing is ready, or because the number of turns is used up
  pub released_end : (n : ℕ) (o : List ℕ) → (lowest (ready g (o ++ released g n o)) (ids g) ≡ None) ⊎ (n ≤ length (released g n o))
  unfolding released
  released_end zero o = inr (omega arith)
  released_end (suc n) o = go (lowest (ready g o) (ids g)) refl (λ p. released_end n (o ++ p ∷ []))
    where
      one_more : (p : ℕ) → lowest (ready g o) (ids g) ≡ Some p → (lowest (ready g ((o ++ p ∷ []) ++ released g n (o ++ p ∷ []))) (ids g) ≡ None) ⊎ (n ≤ length (released g n (o ++ p ∷ [])))
          → (lowest (ready g (o ++ released g (suc n) o)) (ids g) ≡ None) ⊎ (suc n ≤ length (released g (suc n) o))
      one_more p e (inl h) = inl (rw (e, released) (rw append_assoc at h))
      one_more p e (inr h) = inr (rw (e, released) (omega arith))

      go : (c : Option ℕ) → lowest (ready g o) (ids g) ≡ c → ((p : ℕ) → (lowest (ready g ((o ++ p ∷ []) ++ released g n (o ++ p ∷ []))) (ids g) ≡ None) ⊎ (n ≤ length (released g n (o ++ p ∷ []))))
          → (lowest (ready g (o ++ released g (suc n) o)) (ids g) ≡ None) ⊎ (suc n ≤ length (released g (suc n) o))
      go None e ih = inl (rw (e, released) (rw append-nil e))
      go (Some p) e ih = one_more p e (ih p)

-- READY ---------------------------------------------------------------------------------------

module _ (g : List Node) where
  pub ready_facts : (o : List ℕ) (p : ℕ) → ready g o p ≡ true → (is_internal (at g p) ≡ true) × (has p o ≡ false) × ((c : ℕ) → HasChild g p c → Memᴰ c o)
  unfolding ready
  ready_facts o p e =
      let (a, b) = both_true (is_internal (at g p)) _ e in
      let (c, d) = both_true (not (has p o)) _ b in
      (a, not-true (has p o) c, λ x m. has_in x o (all_true (λ y. has y o) (children (at g p)) d x m))

  -- an internal that is not in the order and not ready has a child that is not in the order
  pub unready : (o : List ℕ) (p : ℕ) → ready g o p ≡ false → is_internal (at g p) ≡ true → has p o ≡ false → (c : ℕ) × HasChild g p c × (has c o ≡ false)
  unfolding ready
  unready o p e a b = all_false (λ c. has c o) (children (at g p)) (rw (a, b) at e)

  queue_distinct : {o l : List ℕ} → Queue g o l → Distinct o → Distinct (o ++ l)
  queue_distinct idle d = rw append-nil d
  queue_distinct {o} (release {p = p} {l = l} r b q) d =
      rw append_assoc at (queue_distinct q (distinct_snoc p d (not_in p o (ready_facts o p r).1)))

  queue_below : {o l : List ℕ} → Queue g o l → (x : ℕ) → Memᴰ x l → x < length g
  queue_below (idle {o = o}) x x8 = elim x8 [ ]
  queue_below (release r b q) x (Memᴰ.head e) = rw e b
  queue_below (release r b q) x (Memᴰ.tail m) = queue_below q x m

  -- what is released has nothing but released things below it
  pub queue_ends : {o l : List ℕ} → Queue g o l → ((x : ℕ) → Memᴰ x o → Ends (HasChild g) x) → (x : ℕ) → Memᴰ x (o ++ l) → Ends (HasChild g) x
  queue_ends {o} idle h x m = h x (rw append-nil at m)
  queue_ends {o} (release {p = p} {l = l} r b q) h x m = queue_ends q (λ y k. go y (Memᴰ.append_cases o k)) x (rw append_assoc m)
    where
      go : (y : ℕ) → Memᴰ y o ⊎ Memᴰ y (p ∷ []) → Ends (HasChild g) y
      go y (inl k) = h y k
      go y (inr k) = rw (Memᴰ.eq_of_singleton k) (ends (λ c s. h c ((ready_facts o p r).2 c s)))

  -- THE BEGINNING OF THE ORDER ------------------------------------------------------------------

  pub in_externals : (x : ℕ) → x < length g → is_external (at g x) ≡ true → Memᴰ x (externals g)
  unfolding externals ids
  in_externals x h e = in_sort _ _ x (in_keep _ (run 0 (length g)) x (in_run 0 (length g) x (omega arith) (omega arith)) e)

  pub externals_in : (x : ℕ) → Memᴰ x (externals g) → (is_external (at g x) ≡ true) × (x < length g)
  unfolding externals ids
  externals_in x m =
      let (a, b) = keep_in _ (run 0 (length g)) x (sort_in _ _ x m) in
      let (u, v) = run_in 0 (length g) x a in
      (b, omega arith)

  in_blocks : (x : ℕ) → x < length g → is_block (at g x) ≡ true → Memᴰ x (blocks g)
  unfolding blocks ids
  in_blocks x h e = in_keep _ (run 0 (length g)) x (in_run 0 (length g) x (omega arith) (omega arith)) e

  pub blocks_in : (x : ℕ) → Memᴰ x (blocks g) → (is_block (at g x) ≡ true) × (x < length g)
  unfolding blocks ids
  blocks_in x m =
      let (a, b) = keep_in _ (run 0 (length g)) x m in
      let (u, v) = run_in 0 (length g) x a in
      (b, omega arith)

  pub externals_distinct : Distinct (externals g)
  unfolding externals ids
  externals_distinct = sort_distinct _ (keep_distinct _ (run_distinct 0 (length g)))

  blocks_distinct : Distinct (blocks g)
  unfolding blocks ids
  blocks_distinct = keep_distinct _ (run_distinct 0 (length g))

  pub begun_distinct : Distinct (begun g)
  unfolding begun
  begun_distinct = distinct_append (blocks g) externals_distinct blocks_distinct (λ x m n. not_both (at g x) (externals_in x m).0 (blocks_in x n).0)

  pub begun_in : (x : ℕ) → Memᴰ x (begun g) → ((is_external (at g x) ≡ true) ⊎ (is_block (at g x) ≡ true)) × (x < length g)
  unfolding begun
  begun_in x m = go (Memᴰ.append_cases (externals g) m)
    where
      go : Memᴰ x (externals g) ⊎ Memᴰ x (blocks g) → ((is_external (at g x) ≡ true) ⊎ (is_block (at g x) ≡ true)) × (x < length g)
      go (inl k) = let (a, b) = externals_in x k in (inl a, b)
      go (inr k) = let (a, b) = blocks_in x k in (inr a, b)

  -- THE ORDER -----------------------------------------------------------------------------------

  pub order_distinct : Distinct (order g)
  unfolding order
  order_distinct = queue_distinct (released_queue g (length g) (begun g)) begun_distinct

  pub order_below : (x : ℕ) → Memᴰ x (order g) → x < length g
  unfolding order
  order_below x m = go (Memᴰ.append_cases (begun g) m)
    where
      go : Memᴰ x (begun g) ⊎ Memᴰ x (released g (length g) (begun g)) → x < length g
      go (inl k) = (begun_in x k).1
      go (inr k) = queue_below (released_queue g (length g) (begun g)) x k

  -- WHAT CANNOT BE RELEASED LIES ON OR ABOVE A CYCLE ----------------------------------------------

  module _ (inside : (p c : ℕ) → HasChild g p c → c < length g) (o : List ℕ) (stuck : lowest (ready g o) (ids g) ≡ None)
      (holds : (x : ℕ) → x < length g → (is_external (at g x) ≡ true) ⊎ (is_block (at g x) ≡ true) → Memᴰ x o) where
    onward_kid : (x : ℕ) → x < length g → has x o ≡ false → (c : ℕ) × HasChild g x c × (has c o ≡ false)
    unfolding ids
    onward_kid x b h = go (classes (at g x))
      where
        go : (is_external (at g x) ≡ true) ⊎ ((is_block (at g x) ≡ true) ⊎ (is_internal (at g x) ≡ true)) → (c : ℕ) × HasChild g x c × (has c o ≡ false)
        go (inl e) = absurd (not_in x o h (holds x b (inl e)))
        go (inr (inl e)) = absurd (not_in x o h (holds x b (inr e)))
        go (inr (inr e)) = unready o x (lowest_none (ready g o) (ids g) stuck x (in_run 0 (length g) x (omega arith) (omega arith))) e h

    chase : (f r : ℕ) (l : List ℕ) (x : ℕ) → has x o ≡ false → Path (HasChild g) (r ∷ []) (x ∷ l) → Distinct (x ∷ l) → ((y : ℕ) → Memᴰ y (x ∷ l) → y < length g) → length g ≤ f + length l
        → (y : ℕ) × Steps (HasChild g) y y
    chase zero r l x h w d b e = let k : length (x ∷ l) ≤ length g = pigeonhole (length g) d b in absurd (omega arith)
    chase (suc f) r l x h w d b e =
        let (c, k, u) = onward_kid x (b x (Memᴰ.head refl)) h in
        go c k u (has c (x ∷ l)) refl (chase f r (x ∷ l) c u (onto w k))
      where
        below : (c : ℕ) → HasChild g x c → (y : ℕ) → (y ≡ c) ⊎ Memᴰ y (x ∷ l) → y < length g
        below c k y (inl e) = rw e (inside x c k)
        below c k y (inr m) = b y m

        go : (c : ℕ) → HasChild g x c → has c o ≡ false → (t : Bool) → has c (x ∷ l) ≡ t
            → (Distinct (c ∷ x ∷ l) → ((y : ℕ) → Memᴰ y (c ∷ x ∷ l) → y < length g) → length g ≤ f + length (x ∷ l) → (y : ℕ) × Steps (HasChild g) y y) → (y : ℕ) × Steps (HasChild g) y y
        go c k u true t ih = (c, way_steps (onto w k) (has_in c (x ∷ l) t))
        go c k u false t ih = ih (fresh (not_in c (x ∷ l) t) d) (λ y m. below c k y (Memᴰ.cases_cons m)) (omega arith)

  pub in_begun : (x : ℕ) → x < length g → (is_external (at g x) ≡ true) ⊎ (is_block (at g x) ≡ true) → Memᴰ x (begun g)
  unfolding begun
  in_begun x h (inl e) = Memᴰ.append_left (blocks g) (in_externals x h e)
  in_begun x h (inr e) = Memᴰ.append_right (externals g) (in_blocks x h e)

  -- without a cycle everything is released
  pub order_all : ((p c : ℕ) → HasChild g p c → c < length g) → ((p : ℕ) → ¬ Steps (HasChild g) p p) → (x : ℕ) → x < length g → has x (order g) ≡ true
  unfolding order
  order_all inside acyclic x h = go (has x (order g)) refl
    where
      cases : has x (order g) ≡ false → (lowest (ready g ((begun g) ++ released g (length g) (begun g))) (ids g) ≡ None) ⊎ (length g ≤ length (released g (length g) (begun g))) → ⊥
      cases e (inl stuck) =
          let (y, c) = chase inside (order g) stuck (λ z b k. Memᴰ.append_left _ (in_begun z b k)) (length g) x [] x e (root (Memᴰ.head refl)) (fresh Memᴰ.not-nil empty) (λ y m. rw (Memᴰ.eq_of_singleton m) h) (omega arith) in
          acyclic y c
      cases e (inr many) =
          let k : length (x ∷ order g) ≤ length g = pigeonhole (length g) (fresh (not_in x (order g) e) order_distinct) (λ y m. go2 y (Memᴰ.cases_cons m)) in
          let j : length (order g) ≡ length (begun g) + length (released g (length g) (begun g)) = length-append (begun g) (released g (length g) (begun g)) in
          omega arith
        where
          go2 : (y : ℕ) → (y ≡ x) ⊎ Memᴰ y (order g) → y < length g
          go2 y (inl q) = rw q h
          go2 y (inr m) = order_below y m

      go : (b : Bool) → has x (order g) ≡ b → has x (order g) ≡ true
      go true e = e
      go false e = absurd (cases e (released_end g (length g) (begun g)))

  -- an order that holds everything is as long as the forest
  pub length_order : ((x : ℕ) → x < length g → Memᴰ x (order g)) → length (order g) ≡ length g
  length_order all_in =
      let a : length (order g) ≤ length g = pigeonhole (length g) order_distinct order_below in
      let b : length (run 0 (length g)) ≤ length (order g) = pigeonhole_in (order g) (run_distinct 0 (length g)) (λ x m. all_in x (let (u, v) = run_in 0 (length g) x m in omega arith)) in
      let c = length_run 0 (length g) in
      omega arith
