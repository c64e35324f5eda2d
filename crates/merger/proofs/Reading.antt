-- Merged nodes as the walk has them: records with the ids that its states have for their children.
-- Assumes nothing.
use Prim.Native.Nat.{ℕ, ◌+◌, ◌<◌}
use mathlib.Core.Path.{◌≡◌, sym, ◌∙◌, ap}
use mathlib.Core.List.Memᴰ
use mathlib.Core.List.{List, map, Memᴰ}
use native.Mathlib.Omega.{arith}
use lib.ListN.{length, take, get_or, length-map, length-take}
use lib.Seq.{ext_get_or, get_or-take}
use Rattle.record.specs.Node.{node_at, children, renumber}
use Rattle.record.specs.declared.Node.{Node}
use Rattle.record.proofs.Nodes.{children_renumber}
use Rattle.forest.specs.Graph.{no_node, at, next}
use Rattle.forest.specs.Walk.{State, id_of}
use Rattle.claims.specs.Sound.{Finished}
use Rattle.claims.specs.Walks.{id_in_in}
use Rattle.merger.specs.Walking.{Mapped, merged_at, Readable, EachReadable, Source, Fine, Holds}
use Rattle.sorting.proofs.Uses.{get_d_map}
use Rattle.merger.proofs.Fine.{fine_few}
use Rattle.merger.proofs.Holding.{word_of, child_next}
use Rattle.dense_order.proofs.Delivering.{renumber_agree}
use Rattle.merger.proofs.Renumbering.{renumber_twice}

module _ {s b v u : List ℕ} {g : List Node} {path : List ℕ} {t : State} (m : Mapped s b g) (f : Fine g (length b) path t) (h : Holds g v u (length b) path t) where
  -- a position whose children are finished
  module _ (x : ℕ) (low : x < length b) (done : (c : ℕ) → Memᴰ c (next g x) → Finished t c) where
    child_done : (c : ℕ) → Memᴰ c (children (node_at s x)) → Finished t (get_or b x 0 + c)
    child_done c k =
        let o : ℕ = get_or b x 0 in
        let e : children (at g x) ≡ map (λ c. o + c) (children (node_at s x)) = ap children (m.nodes x low) ∙ children_renumber _ (node_at s x) in
        done (o + c) (child_next g x (o + c) (rw e (Memᴰ.map (λ (c : ℕ). o + c) k)))

    child_word : (c : ℕ) → Memᴰ c (children (node_at s x)) → get_or v (get_or b x 0 + c) 0 ≡ id_of t (get_or b x 0 + c) + 2
    child_word c k = let d = child_done c k in word_of h _ (f.within _ d) d

    pub readable : Readable s b v x
    readable = record {
      below = low;
      within = let z = m.counted in omega arith;
      few = m.few;
      fit = m.fit x low;
      ended = λ c k. (let y = f.within _ (child_done c k) in let z = h.long in omega arith, let z = child_word c k in omega arith);
    }

    pub merged_is : merged_at s b v x ≡ renumber (id_of t) (at g x)
    unfolding merged_at
    merged_is = renumber_agree _ _ (node_at s x) (λ c k. let z = child_word c k in omega arith) ∙ (sym (renumber_twice (id_of t) _ (node_at s x)) ∙ ap (renumber (id_of t)) (sym (m.nodes x low)))

  -- the source of a merged id is such a position
  source_done : {q k : ℕ} → Source g t q k → Finished t q
  source_done {q} {k} o = id_in_in t.done q k o.own

  pub source_below : {q k : ℕ} → Source g t q k → q < length b
  source_below o = f.within _ (source_done o)

  fronts : length (take (length t.merged) u) ≡ length t.merged
  fronts = let z = fine_few f in let y = h.wide in simp length-take (omega arith)

  source_at : (k : ℕ) → k < length t.merged → Source g t (get_or (take (length t.merged) u) k 0) k
  source_at k l = rw (get_or-take (length t.merged) u k 0 l) (h.sources k l)

  pub sources_readable : EachReadable s b v (take (length t.merged) u)
  sources_readable k l = let o = source_at k (omega (arith, fronts)) in readable _ (source_below o) (λ c j. f.closed _ c (source_done o) j)

  -- and the merged nodes are read off the sources
  pub merged_list : map (merged_at s b v) (take (length t.merged) u) ≡ t.merged
  unfolding at
  merged_list =
      let l : length (map (merged_at s b v) (take (length t.merged) u)) ≡ length (take (length t.merged) u) = length-map (take (length t.merged) u) _ in
      let n = fronts in
      ext_get_or no_node (map (merged_at s b v) (take (length t.merged) u)) t.merged (omega arith) (λ k i.
      let o = source_at k (omega arith) in
      get_d_map (merged_at s b v) (take (length t.merged) u) k 0 no_node (omega arith) ∙ (merged_is _ (source_below o) (λ c j. f.closed _ c (source_done o) j) ∙ sym o.node))
