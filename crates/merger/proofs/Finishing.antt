-- Finishing an open position: with the id of a merged node, or as a new one.
-- Assumes nothing.
use Prim.Native.Nat.{ℕ, ◌+◌, ◌<◌}
use mathlib.Core.Path.{◌≡◌, refl, sym, ◌∙◌, ap}
use mathlib.Core.List.{List, [], ◌∷◌, ◌++◌, Memᴰ}
use mathlib.Core.Logic.{◌≢◌}
use Rattle.std.specs.Prelude.{Some}
use native.Mathlib.Omega.{arith}
use native.Mathlib.Decide.{ℕ_discrete}
use lib.ListN.{length, get_or, set, length-set, length-append}
use lib.Seq.{get_or-set_same, get_or-set_other}
use Rattle.record.specs.Node.{renumber}
use Rattle.record.specs.declared.Node.{Node}
use Rattle.forest.specs.Graph.{at, replaced_by, next}
use Rattle.forest.specs.Lists.{has}
use Rattle.forest.specs.Walk.{State, id_in, or_none, id_of, ended, finish}
use Rattle.claims.specs.Built.{at_last, at_before}
use Rattle.claims.specs.Sound.{Finished}
use Rattle.claims.specs.Walks.{id_in_in}
use Rattle.merger.specs.Walking.{word, Source, Fine, Holds}
use Rattle.merger.proofs.Fine.{fine_fewer}
use Rattle.merger.proofs.Holding.{word_some, word_of, has_other, id_in_same, id_in_other, child_next}
use Rattle.dense_order.proofs.Delivering.{renumber_agree}

module _ {g : List Node} {v u : List ℕ} {n p : ℕ} {path : List ℕ} {t : State} (f : Fine g n (p ∷ path) t) (h : Holds g v u n (p ∷ path) t) (low : p < n) where
  -- what is finished is not p
  other : (x : ℕ) → Finished t x → x ≢ p
  other x m e = f.unfinished p (Memᴰ.head refl) (rw e at m)

  -- p finished with the id i, where the merged nodes are ms
  module _ (i : ℕ) (ms : List Node) where
    after : State
    after = record { done = (p, i) ∷ t.done; merged = ms }

    id_kept : (x : ℕ) → Finished t x → id_of after x ≡ id_of t x
    unfolding id_of after
    id_kept x m = ap or_none (id_in_other t.done p i x (other x m))

    node_kept : (x : ℕ) → ((c : ℕ) → Memᴰ c (next g x) → Finished t c) → renumber (id_of t) (at g x) ≡ renumber (id_of after) (at g x)
    node_kept x k = renumber_agree _ _ (at g x) (λ c m. sym (id_kept c (k c (child_next g x c m))))

    source_kept : {q k : ℕ} → at ms k ≡ at t.merged k → Source g t q k → Source g after q k
    unfolding after
    source_kept {q} {k} e o =
        let d : Finished t q = id_in_in t.done q k o.own in
        record { own = id_in_other t.done p i q (other q d) ∙ o.own; node = e ∙ (o.node ∙ node_kept q (λ c m. f.closed q c d m)) }

    state_kept : (w : ℕ) → w ≡ i + 2 → (x : ℕ) → x < n → get_or (set v p w) x 0 ≡ word (id_in ((p, i) ∷ t.done) x) (has x path)
    state_kept w own x l = go (ℕ_discrete x p)
      where
        go : Dec (x ≡ p) → get_or (set v p w) x 0 ≡ word (id_in ((p, i) ∷ t.done) x) (has x path)
        go (yes e) = rw (e, get_or-set_same v p w 0 (let z = h.long in omega arith)) (own ∙ sym (word_some _ (has p path) i (id_in_same t.done p i)))
        go (no e) = rw (get_or-set_other v p x w 0 e, id_in_other t.done p i x e) (h.states x l ∙ ap (word (id_in t.done x)) (has_other x p path e))

  -- with the id of a merged node
  pub holds_ended : (i w : ℕ) → w ≡ i + 2 → Holds g (set v p w) u n path (ended p i t)
  unfolding ended after
  holds_ended i w e = record {
    long = length-set v p w ∙ h.long;
    wide = h.wide;
    states = state_kept i t.merged w e;
    sources = λ k l. source_kept i t.merged refl (h.sources k l);
  }

  -- as a new one
  pub holds_new : (x : Node) → x ≡ renumber (id_of t) (at g p) → ((c : ℕ) → Memᴰ c (next g p) → Finished t c)
      → Holds g (set v p (length t.merged + 2)) (set u (length t.merged) p) n path (ended p (length t.merged) (record { done = t.done; merged = t.merged ++ x ∷ [] }))
  unfolding ended after
  holds_new x e k = record {
    long = length-set v p (length t.merged + 2) ∙ h.long;
    wide = length-set u (length t.merged) p ∙ h.wide;
    states = state_kept (length t.merged) (t.merged ++ x ∷ []) (length t.merged + 2) refl;
    sources = λ j l. from j (let z = length-append t.merged (x ∷ []) in omega arith) (ℕ_discrete j (length t.merged));
  }
    where
      from : (j : ℕ) → j < length t.merged + 1 → Dec (j ≡ length t.merged) → Source g (after (length t.merged) (t.merged ++ x ∷ [])) (get_or (set u (length t.merged) p) j 0) j
      from j l (yes z) =
          let c : ℕ = length t.merged in
          let few : c < n = fine_fewer f low in
          rw (z, get_or-set_same u c p 0 (let y = h.wide in omega arith))
          (record { own = id_in_same t.done p c; node = at_last t.merged x ∙ (e ∙ node_kept c (t.merged ++ x ∷ []) p k) })
      from j l (no z) =
          let c : ℕ = length t.merged in
          rw (get_or-set_other u c j p 0 z)
          (source_kept c (t.merged ++ x ∷ []) (at_before t.merged x j (omega arith)) (h.sources j (omega arith)))

-- a replaced external takes its replacement's id
pub inherits : {g : List Node} {v u : List ℕ} {n p q : ℕ} {path : List ℕ} {t : State} → Fine g n (p ∷ path) t → Holds g v u n (p ∷ path) t → p < n → replaced_by g p ≡ Some q → Finished t q
    → (length t.merged ≡ length (finish g p t).merged) × Holds g (set v p (get_or v q 0)) u n path (finish g p t)
unfolding finish ended
inherits {g} {v} {u} {n} {p} {q} {path} {t} f h low e d = rw (e, finish) (refl, holds_ended f h low (id_of t q) (get_or v q 0) (word_of h q (f.within q d) d))
