-- What a finished walk has merged: each node's children stand before it, no two nodes are equal, every id is that of a merged
-- node, and no position is finished twice.
-- Assumes nothing.
use Rattle.std.specs.Prelude.{ℕ, ◌<◌, ◌≤◌, ◌≡◌, Bool, true, false, ◌⊎◌, eqb, Option, Some, None}
use Rattle.std.proofs.Math.Path.{refl}
use Rattle.std.proofs.Common.{sym, inl, inr, arith, length-append}
use mathlib.Core.List.Memᴰ
use mathlib.Core.List.{List, [], ◌∷◌, ◌++◌, Memᴰ}
use Rattle.std.proofs.lemmas.Bool.{eqb-false}
use Rattle.std.proofs.Math.ListN.{length}
use Rattle.record.specs.Node.{children, renumber, same_node}
use Rattle.record.specs.declared.Node.{Node}
use Rattle.record.proofs.Basics.{clash}
use Rattle.record.proofs.Nodes.{child_from}
use Rattle.forest.specs.Graph.{at, replaced_by, listed, next}
use Rattle.forest.specs.Lists.{lowest}
use Rattle.forest.specs.Walk.{State, start, going, id_in, or_none, id_of, ended, push, finish, visit, walk}
use Rattle.claims.specs.Distinct.{Distinct, empty, fresh}
use Rattle.claims.specs.Searches.{lowest_none, lowest_lt}
use Rattle.claims.specs.WalkInduction.{visit_ind, walk_ind}
use Rattle.claims.specs.Walks.{positions, id_in_in, finish_positions}

-- merged nodes: each has its children among those before it, and none of those is like it
pub data Built : List Node → Type 0 where
  built_nil : Built []
  built : {l : List Node} (ms : List Node) (n : Node) → l ≡ ms ++ n ∷ [] → Built ms → ((c : ℕ) → Memᴰ c (children n) → c < length ms) → ((x : Node) → Memᴰ x ms → same_node n x ≡ false) → Built l

-- a node of the graph, with its children renumbered
pub record Origin (g : List Node) (x : Node) : Type 0 where
  pub place : ℕ
  pub ids : ℕ → ℕ
  pub is : x ≡ renumber ids (at g place)

pub record Sound (g : List Node) (s : State) : Type 0 where
  pub merged_built : Built s.merged
  pub named : (p i : ℕ) → id_in s.done p ≡ Some i → i < length s.merged
  pub single : Distinct (positions s.done)
  pub few : length s.merged ≤ length s.done
  pub origin : (x : Node) → Memᴰ x s.merged → Origin g x

abbrev pub Finished : State → ℕ → Type 0
Finished s x = Memᴰ x (positions s.done)

-- from s the walk has come to t, with the nodes of `path` open and those of ps finished
pub record After (g : List Node) (path ps : List ℕ) (s t : State) : Type 0 where
  pub sound : Sound g t
  pub unfinished : (x : ℕ) → Memᴰ x path → ¬ Finished t x
  pub kept : (x : ℕ) → Finished s x → Finished t x
  pub done_all : (x : ℕ) → Memᴰ x ps → Finished t x

abbrev pub Each : List Node → List ℕ → List ℕ → State → State → Type 0
Each g path ps s t = Sound g s → ((x : ℕ) → Memᴰ x path → ¬ Finished s x) → After g path ps s t

-- a finished position has an id
pub in_id_in : (d : List (ℕ × ℕ)) (p : ℕ) → Memᴰ p (positions d) → (i : ℕ) × (id_in d p ≡ Some i)
unfolding id_in
in_id_in [] p m = absurd (Memᴰ.not-nil m)
in_id_in (e ∷ es) p m = go (eqb p e.0) refl (in_id_in es p) (Memᴰ.cases_cons m)
  where
    further : eqb p e.0 ≡ false → (i : ℕ) × (id_in es p ≡ Some i) → (i : ℕ) × (id_in (e ∷ es) p ≡ Some i)
    further t (i, h) = (i, rw (t, id_in) h)

    go : (b : Bool) → eqb p e.0 ≡ b → (Memᴰ p (positions es) → (i : ℕ) × (id_in es p ≡ Some i)) → (p ≡ e.0) ⊎ Memᴰ p (positions es) → (i : ℕ) × (id_in (e ∷ es) p ≡ Some i)
    go true t ih c = (e.1, rw (t, id_in))
    go false t ih (inl q) = absurd (eqb-false p e.0 t q)
    go false t ih (inr k) = further t (ih k)

-- the ids after one more is given
pub id_in_ended : (d : List (ℕ × ℕ)) (p i x j : ℕ) → id_in ((p, i) ∷ d) x ≡ Some j → (j ≡ i) ⊎ (id_in d x ≡ Some j)
unfolding id_in
id_in_ended d p i x j e = go (eqb x p) refl
  where
    go : (b : Bool) → eqb x p ≡ b → (j ≡ i) ⊎ (id_in d x ≡ Some j)
    go true t = inl (let z : Some i ≡ Some j = rw (t, id_in) at e in cc)
    go false t = inr (rw (t, id_in) at e)

pub id_of_lt : (g : List Node) (s : State) (p : ℕ) → Sound g s → Finished s p → id_of s p < length s.merged
unfolding id_of or_none
id_of_lt g s p h m = let (i, e) = in_id_in s.done p m in rw e (h.named p i e)

-- p finished with an id that is there
sound_ended : (g : List Node) (p i : ℕ) (s : State) → Sound g s → ¬ Finished s p → i < length s.merged → Sound g (ended p i s)
unfolding ended
sound_ended g p i s h f b = record {
  merged_built = h.merged_built;
  named = λ x j e. from x j (id_in_ended s.done p i x j e);
  single = fresh f h.single;
  few = let q = h.few in omega arith;
  origin = h.origin;
}
  where
    from : (x j : ℕ) → (j ≡ i) ⊎ (id_in s.done x ≡ Some j) → j < length s.merged
    from x j (inl e) = rw e b
    from x j (inr e) = h.named x j e

-- p finished as a new node
sound_new : (g : List Node) (p : ℕ) (n : Node) (s : State) → Sound g s → ¬ Finished s p → ((c : ℕ) → Memᴰ c (children n) → c < length s.merged) → ((x : Node) → Memᴰ x s.merged → same_node n x ≡ false) → Origin g n
    → Sound g (ended p (length s.merged) (record { done = s.done; merged = s.merged ++ n ∷ [] }))
unfolding ended
sound_new g p n s h f k d o = record {
  merged_built = built s.merged n refl h.merged_built k d;
  named = λ x j e. from x j (id_in_ended s.done p (length s.merged) x j e);
  single = fresh f h.single;
  few = let q = h.few in let z = length-append s.merged (n ∷ []) in omega arith;
  origin = λ x m. whence x (Memᴰ.append_cases s.merged m);
}
  where
    from : (x j : ℕ) → (j ≡ length s.merged) ⊎ (id_in s.done x ≡ Some j) → j < length (s.merged ++ n ∷ [])
    from x j (inl e) = let z = length-append s.merged (n ∷ []) in omega arith
    from x j (inr e) = let z = length-append s.merged (n ∷ []) in let q = h.named x j e in omega arith

    whence : (x : Node) → Memᴰ x s.merged ⊎ Memᴰ x (n ∷ []) → Origin g x
    whence x (inl m) = h.origin x m
    whence x (inr m) = rw (Memᴰ.eq_of_singleton m) o

sound_push : (g : List Node) (p : ℕ) (n : Node) (s : State) → Sound g s → ¬ Finished s p → ((c : ℕ) → Memᴰ c (children n) → c < length s.merged) → Origin g n → Sound g (push p n s)
unfolding push
sound_push g p n s h f k o = go (lowest (same_node n) s.merged) refl
  where
    go : (o' : Option ℕ) → lowest (same_node n) s.merged ≡ o' → Sound g (push p n s)
    go None e = rw (e, push) (sound_new g p n s h f k (lowest_none (same_node n) s.merged e) o)
    go (Some i) e = rw (e, push) (sound_ended g p i s h f (lowest_lt (same_node n) s.merged i e))

module _ (g : List Node) where
  pub sound_finish : (p : ℕ) (s : State) → Sound g s → ¬ Finished s p → ((x : ℕ) → Memᴰ x (next g p) → Finished s x) → Sound g (finish g p s)
  unfolding finish next listed
  sound_finish p s h f k = go (replaced_by g p) refl
    where
      kid : (c : ℕ) → (x : ℕ) × Memᴰ x (children (at g p)) × (id_of s x ≡ c) → c < length s.merged
      kid c (x, m, e) = rw (sym e) (id_of_lt g s x h (k x (Memᴰ.append_left (listed (replaced_by g p)) m)))

      go : (o : Option ℕ) → replaced_by g p ≡ o → Sound g (finish g p s)
      go None e = rw (e, finish) (sound_push g p (renumber (id_of s) (at g p)) s h f (λ c m. kid c (child_from (id_of s) (at g p) c m)) (record { place = p; ids = id_of s; is = refl }))
      go (Some q) e = rw (e, finish) (sound_ended g p (id_of s q) s h f (id_of_lt g s q h (k q (Memᴰ.append_right (children (at g p)) (rw e (Memᴰ.head refl))))))

  followed : (s t u : State) (path : List ℕ) (p : ℕ) (ps : List ℕ) → After g path (p ∷ []) s t → After g path ps t u → After g path (p ∷ ps) s u
  followed s t u path p ps a b = record { sound = b.sound; unfinished = b.unfinished; kept = λ x m. b.kept x (a.kept x m); done_all = λ x m. from x (Memᴰ.cases_cons m) }
    where
      from : (x : ℕ) → (x ≡ p) ⊎ Memᴰ x ps → Finished u x
      from x (inl e) = b.kept x (a.done_all x (Memᴰ.head e))
      from x (inr m) = b.done_all x m

  -- before p is opened neither it nor what is open is finished
  not_yet : (path : List ℕ) (p : ℕ) (s : State) → id_in s.done p ≡ None → ((x : ℕ) → Memᴰ x path → ¬ Finished s x) → (x : ℕ) → Memᴰ x (p ∷ path) → ¬ Finished s x
  not_yet path p s e f x m k = from (Memᴰ.cases_cons m)
    where
      from : (x ≡ p) ⊎ Memᴰ x path → ⊥
      from (inl q) = let (i, z) = in_id_in s.done p (rw q at k) in clash (cc)
      from (inr n) = f x n k

  opened_after : (path : List ℕ) (p : ℕ) (s t : State) → ¬ Memᴰ p path → After g (p ∷ path) (next g p) s t → After g path (p ∷ []) s (finish g p t)
  opened_after path p s t n a = record {
    sound = sound_finish p t a.sound (a.unfinished p (Memᴰ.head refl)) a.done_all;
    unfinished = λ x m k. still x m (Memᴰ.cases_cons (rw finish_positions at k));
    kept = λ x m. rw finish_positions (Memᴰ.tail (a.kept x m));
    done_all = λ x m. rw finish_positions (Memᴰ.head (Memᴰ.eq_of_singleton m));
  }
    where
      still : (x : ℕ) → Memᴰ x path → (x ≡ p) ⊎ Finished t x → ⊥
      still x m (inl e) = n (rw e at m)
      still x m (inr k) = a.unfinished x (Memᴰ.tail m) k

  passed : (path : List ℕ) (p : ℕ) (s : State) (i : ℕ) → id_in s.done p ≡ Some i → Each g path (p ∷ []) s s
  passed path p s i q h f = record { sound = h; unfinished = f; kept = λ x m. m; done_all = λ x m. rw (Memᴰ.eq_of_singleton m) (id_in_in s.done p i q) }

  stayed : (path : List ℕ) (s : State) → Each g path [] s s
  stayed path s h f = record { sound = h; unfinished = f; kept = λ x m. m; done_all = λ x m. absurd (Memᴰ.not-nil m) }

  joined_each : (path : List ℕ) (p : ℕ) (ps : List ℕ) (s t u : State) → Each g path (p ∷ []) s t → Each g path ps t u → Each g path (p ∷ ps) s u
  joined_each path p ps s t u a b h f = followed s t u path p ps (a h f) (b (a h f).sound (a h f).unfinished)

  opened_each : (path : List ℕ) (p : ℕ) (s t : State) → ¬ Memᴰ p path → id_in s.done p ≡ None → Each g (p ∷ path) (next g p) s t → Each g path (p ∷ []) s (finish g p t)
  opened_each path p s t n q a h f = opened_after path p s t n (a h (not_yet path p s q f))

  -- what a visit comes to is sound, and what was finished or is visited is finished
  pub visit_after : (d : ℕ) (path : List ℕ) (p : ℕ) (s t : State) → visit g d path p s ≡ going t → Each g path (p ∷ []) s t
  visit_after = visit_ind g (λ path p s u. Each g path (p ∷ []) s u) (Each g) passed stayed joined_each opened_each

  pub sound_start : Sound g start
  unfolding start id_in
  sound_start = record { merged_built = built_nil; named = λ p i q. absurd (clash (cc)); single = empty; few = omega arith; origin = λ x m. absurd (Memᴰ.not-nil m) }

  -- what the walk comes to is sound, and its roots are finished
  pub walk_after : (limit : ℕ) (roots : List ℕ) (t : State) → walk g limit roots ≡ going t → After g [] roots start t
  walk_after limit roots t e = walk_ind g (λ path p s u. Each g path (p ∷ []) s u) (Each g) passed stayed joined_each opened_each limit roots t e sound_start (λ x m. absurd (Memᴰ.not-nil m))

  pub walk_sound : (limit : ℕ) (roots : List ℕ) (t : State) → walk g limit roots ≡ going t → Sound g t
  walk_sound limit roots t e = (walk_after limit roots t e).sound
