-- Laws of the sources of merged nodes: sorted by class and digest they are the sources of the ids in their canonical order.
-- Assumes nothing.
use Prim.Native.Nat.{ℕ, ◌+◌, ◌<◌, ◌≤◌}
use mathlib.Core.Path.{◌≡◌, refl, sym, ◌∙◌, ap}
use mathlib.Core.Bool.{Bool, true, false, not}
use mathlib.Core.List.{List, [], ◌∷◌, ◌++◌, map, map-append}
use native.Mathlib.Omega.{arith}
use lib.Dec.{eqb}
use lib.ListN.{length, get_or, length-map}
use lib.Seq.{ext_get_or}
use Rattle.record.specs.Lists.{run}
use Rattle.record.specs.Node.{node_at, class_of, rank, class, is_external, is_block, is_internal, renumber}
use Rattle.record.specs.declared.Class.{Class}
use Rattle.record.specs.declared.Class.TheVariants.{External, Block, Internal}
use Rattle.record.specs.declared.Node.{Node}
use Rattle.record.proofs.Lengths.{length_run}
use Rattle.record.proofs.Nodes.{child_from}
use Rattle.forest.specs.Graph.{at}
use Rattle.forest.specs.Lists.{keep, insert, sort}
use Rattle.forest.specs.Order.{ids, lower, externals, blocks, order}
use Rattle.forest.specs.Walk.{State}
use Rattle.claims.specs.Built.{built_kids}
use Rattle.claims.specs.Children.{Bare, parent_in}
use Rattle.claims.specs.First.{order_first}
use Rattle.claims.specs.Sorts.{run_in}
use Rattle.claims.specs.Sound.{Sound}
use Rattle.claims.specs.Walks.{id_in_in}
use Rattle.sorting.specs.Digests.{less}
use Rattle.sorting.specs.Promises.{Listed}
use Rattle.sorting.specs.Sorted.{All}
use Rattle.sorting.proofs.Agree.{sort_agree}
use Rattle.sorting.proofs.SortLaws.{at_all, all_keep}
use Rattle.sorting.proofs.Uses.{get_d_map}
use Rattle.dense_order.proofs.Filling.{ids_at}
use Rattle.dense_order.proofs.Gathering.{keep_same}
use Rattle.merger.specs.Rooms.{classed, sorted}
use Rattle.merger.specs.Sections.{sources_at}
use Rattle.merger.specs.Walking.{Source, Ended}
use Rattle.merger.proofs.Fine.{fine_few}

-- MAPPED LISTS ------------------------------------------------------------------------------------

module _ (f : ℕ → ℕ) where
  keep_map : (t : ℕ → Bool) (l : List ℕ) → keep t (map f l) ≡ map f (keep (λ x. t (f x)) l)
  unfolding keep
  keep_map t [] = refl
  keep_map t (x ∷ l) = go (t (f x)) refl (keep_map t l)
    where
      go : (b : Bool) → t (f x) ≡ b → keep t (map f l) ≡ map f (keep (λ y. t (f y)) l) → keep t (map f (x ∷ l)) ≡ map f (keep (λ y. t (f y)) (x ∷ l))
      go true e ih = rw (e, keep) (ap {B = List ℕ} (λ k. f x ∷ k) ih)
      go false e ih = rw (e, keep) ih

  insert_map : (goes : ℕ → ℕ → Bool) (x : ℕ) (l : List ℕ) → insert goes (f x) (map f l) ≡ map f (insert (λ a b. goes (f a) (f b)) x l)
  unfolding insert
  insert_map goes x [] = refl
  insert_map goes x (y ∷ l) = go (goes (f x) (f y)) refl (insert_map goes x l)
    where
      go : (b : Bool) → goes (f x) (f y) ≡ b → insert goes (f x) (map f l) ≡ map f (insert (λ a c. goes (f a) (f c)) x l) → insert goes (f x) (map f (y ∷ l)) ≡ map f (insert (λ a c. goes (f a) (f c)) x (y ∷ l))
      go true e ih = rw (e, insert) refl
      go false e ih = rw (e, insert) (ap {B = List ℕ} (λ k. f y ∷ k) ih)

  sort_map : (goes : ℕ → ℕ → Bool) (l : List ℕ) → sort goes (map f l) ≡ map f (sort (λ a b. goes (f a) (f b)) l)
  unfolding sort
  sort_map goes [] = refl
  sort_map goes (x ∷ l) = ap (insert (λ a b. not (goes b a)) (f x)) (sort_map goes l) ∙ insert_map (λ a b. not (goes b a)) x (sort (λ a b. goes (f a) (f b)) l)

-- a list, number by number
map_run : (f : ℕ → ℕ) (l : List ℕ) (m : ℕ) → length l ≡ m → ((k : ℕ) → k < m → get_or l k 0 ≡ f k) → l ≡ map f (run 0 m)
map_run f l m h e =
    let q : length (map f (run 0 m)) ≡ length (run 0 m) = length-map (run 0 m) f in
    let r = length_run 0 m in
    ext_get_or 0 l (map f (run 0 m)) (omega arith) (λ i b. e i (omega arith) ∙ sym (get_d_map f (run 0 m) i 0 0 (omega arith) ∙ ap f (ids_at m i (omega arith))))

-- MERGED NODES ------------------------------------------------------------------------------------

-- only internals among them have children
pub sound_bare : {g : List Node} {t : State} → Bare g → Sound g t → Bare t.merged
unfolding Bare is_internal class renumber
sound_bare {g} {t} b s p c k =
    let o = s.origin (at t.merged p) (parent_in t.merged p c k) in
    let (x, m, e) = child_from o.ids (at g o.place) c (rw o.is at k) in
    rw o.is (b o.place x m)

module _ {s w : List ℕ} {n m : ℕ} {g : List Node} {t : State} (a : Ended s w n m g t) where
  abbrev pub source : ℕ → ℕ
  source k = get_or w (sources_at n + k) 0

  pub source_of : (k : ℕ) → k < m → Source g t (source k) k
  source_of k h = a.holds.sources k (let e = a.counted in omega arith)

  pub few : m ≤ n
  few = let e = a.counted in let h = fine_few a.fine in omega arith

  pub source_below : (k : ℕ) → k < m → source k < n
  source_below k h = a.fine.within (source k) (id_in_in t.done (source k) k (source_of k h).own)

  -- a merged node has the kind and the digest of its source's record
  kind_is : (k : ℕ) → k < m → (node_at s (source k)).kind ≡ (at t.merged k).kind
  unfolding renumber
  kind_is k h = rw ((source_of k h).node, a.mapped.nodes (source k) (source_below k h)) refl

  digest_is : (k : ℕ) → k < m → (node_at s (source k)).digest ≡ (at t.merged k).digest
  unfolding renumber
  digest_is k h = rw ((source_of k h).node, a.mapped.nodes (source k) (source_below k h)) refl

  -- so its class is that of the record
  module _ (l : List ℕ) (long : length l ≡ m) (same : (k : ℕ) → k < m → get_or l k 0 ≡ source k) where
    pub sources_listed : Listed s l
    unfolding Listed
    sources_listed = at_all l (λ k h. let c = a.mapped.counted in let b = source_below k (omega arith) in let e = same k (omega arith) in omega arith)

    class_is : (c : Class) → classed s c l ≡ map source (keep (λ k. eqb (rank (class (at t.merged k))) (rank c)) (run 0 m))
    unfolding classed class
    class_is c =
        rw (map_run source l m long same)
        (keep_map source (λ q. eqb (rank (class (node_at s q))) (rank c)) (run 0 m)
        ∙ ap (map source) (keep_same _ _ (run 0 m) (λ k i. let (u, v) = run_in 0 m k i in ap (λ (x : ℕ). eqb (rank (class_of x)) (rank c)) (kind_is k (omega arith)))))

    below_m : All (λ k. k < m) (run 0 m)
    below_m = let z = length_run 0 m in at_all (run 0 m) (λ i h. let e = ids_at m i (omega arith) in omega arith)

    externals_are : sort (less s) (classed s External l) ≡ map source (externals t.merged)
    unfolding externals ids is_external lower less
    externals_are =
        rw (class_is External, ← a.counted)
        (sort_map source (less s) (keep (λ k. eqb (rank (class (at t.merged k))) (rank External)) (run 0 m))
        ∙ ap (map source) (sort_agree (λ x y. less s (source x) (source y)) (lower t.merged) (λ x y h k. rw (digest_is x h, digest_is y k) refl) (all_keep _ below_m)))

    -- the sources as they are sorted are those of the order
    pub sorted_is : sorted s l ≡ map source (order t.merged)
    unfolding sorted blocks ids is_block is_internal
    sorted_is =
        rw (
          order_first t.merged (λ p c k. built_kids a.fine.sound.merged_built p c k),
          externals_are,
          class_is Block,
          class_is Internal,
          map-append source (externals t.merged) (blocks t.merged ++ keep (λ p. is_internal (at t.merged p)) (ids t.merged)),
          map-append source (blocks t.merged) (keep (λ p. is_internal (at t.merged p)) (ids t.merged)),
          ← a.counted,
        )
        refl
