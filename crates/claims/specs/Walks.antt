-- Why the walk answers what it answers: what it met, on a path from a root.
-- Assumes nothing.
use Prim.Native.Nat.{ℕ, zero, suc, ◌+◌}
use Rattle.std.specs.Prelude.{◌≡◌, Bool, true, false, ◌⊎◌, eqb, length, Option, Some, None}
use Rattle.std.proofs.Math.Path.{refl}
use Rattle.std.proofs.Common.{sym, ◌∙◌, ap, inl, inr, arith, eqb-true}
use mathlib.Core.List.Memᴰ
use mathlib.Core.List.{List, [], ◌∷◌, map, Memᴰ}
use Rattle.record.specs.Node.{children, same_node}
use Rattle.record.specs.declared.Node.{Node}
use Rattle.record.proofs.Basics.{clash}
use Rattle.forest.specs.Graph.{at, replaced_by, listed, next}
use Rattle.forest.specs.Lists.{has, lowest}
use Rattle.forest.specs.Walk.{State, start, Walked, going, cycle, deep, id_in, Mark, finished, opened, unseen, marked, mark, ended, push, finish, onward, each, enter, visit, walk}
use Rattle.claims.specs.Distinct.{Distinct, empty, fresh}
use Rattle.claims.specs.Paths.{Step, child, replaced, Path, root, onto}
use Rattle.claims.specs.Searches.{has_in, not_in}

-- where the walk goes, the graph has a step
pub next_step : (g : List Node) (p c : ℕ) → Memᴰ c (next g p) → Step g p c
unfolding next listed
next_step g p c m = go (Memᴰ.append_cases (children (at g p)) m)
  where
    from : (o : Option ℕ) → replaced_by g p ≡ o → Memᴰ c (listed o) → Step g p c
    from None e n = absurd (Memᴰ.not-nil n)
    from (Some q) e n = replaced (e ∙ ap {B = Option ℕ} Some (sym (Memᴰ.eq_of_singleton n)))

    go : Memᴰ c (children (at g p)) ⊎ Memᴰ c (listed (replaced_by g p)) → Step g p c
    go (inl n) = child n
    go (inr n) = from (replaced_by g p) refl n

-- what is open is open because it lies on the path; what is unseen does not
pub opened_has : (o : Option ℕ) (b : Bool) → marked o b ≡ opened → b ≡ true
unfolding marked
opened_has (Some i) b e = cc
opened_has None true e = refl
opened_has None false e = cc

pub unseen_has : (o : Option ℕ) (b : Bool) → marked o b ≡ unseen → b ≡ false
unfolding marked
unseen_has (Some i) b e = cc
unseen_has None true e = cc
unseen_has None false e = refl

pub finished_some : (o : Option ℕ) (b : Bool) → marked o b ≡ finished → (i : ℕ) × (o ≡ Some i)
unfolding marked
finished_some (Some i) b e = (i, refl)
finished_some None true e = absurd (clash (cc))
finished_some None false e = absurd (clash (cc))

-- the finished positions
abbrev pub positions : List (ℕ × ℕ) → List ℕ
positions d = map (λ e. e.0) d

pub id_in_in : (d : List (ℕ × ℕ)) (p i : ℕ) → id_in d p ≡ Some i → Memᴰ p (positions d)
unfolding id_in
id_in_in [] p i h = absurd (clash (cc))
id_in_in (e ∷ es) p i h = go (eqb p e.0) refl (id_in_in es p i)
  where
    go : (b : Bool) → eqb p e.0 ≡ b → (id_in es p ≡ Some i → Memᴰ p (positions es)) → Memᴰ p (positions (e ∷ es))
    go true t ih = Memᴰ.head (eqb-true p e.0 t)
    go false t ih = Memᴰ.tail (ih (rw (t, id_in) at h))

-- a node that finishes is put in front of the finished ones, whatever id it takes
pub finish_positions : (g : List Node) (p : ℕ) (s : State) → positions (finish g p s).done ≡ p ∷ positions s.done
unfolding finish push ended
finish_positions g p s = go (replaced_by g p) refl
  where
    pushed : (n : Node) (o : Option ℕ) → lowest (same_node n) s.merged ≡ o → positions (push p n s).done ≡ p ∷ positions s.done
    pushed n None e = rw (e, push)
    pushed n (Some i) e = rw (e, push)

    go : (o : Option ℕ) → replaced_by g p ≡ o → positions (finish g p s).done ≡ p ∷ positions s.done
    go None e = rw (e, finish) (pushed _ _ refl)
    go (Some q) e = rw (e, finish)

-- the list holds, with each node, where one comes from it, further on in the list
pub data Closed (g : List Node) : List ℕ → Type 0 where
  nothing : Closed g []
  after : {p : ℕ} {l : List ℕ} → ((c : ℕ) → Memᴰ c (next g p) → Memᴰ c l) → Closed g l → Closed g (p ∷ l)

-- from the state s the walk has come to t, where the nodes of ps are finished
pub record Came (g : List Node) (s : State) (ps : List ℕ) (t : State) : Type 0 where
  pub closed : Closed g (positions t.done)
  pub kept : (c : ℕ) → Memᴰ c (positions s.done) → Memᴰ c (positions t.done)
  pub ended : (c : ℕ) → Memᴰ c ps → Memᴰ c (positions t.done)

-- why the walk answers what it answers
pub data Why (g : List Node) (roots : List ℕ) (limit : ℕ) (Q : State → Type 0) : Walked → Type 0 where
  fine : {s : State} → Q s → Why g roots limit Q (going s)
  met : {p : ℕ} {l : List ℕ} → Path (Step g) roots (p ∷ l) → Memᴰ p l → Why g roots limit Q (cycle p)
  full : {p : ℕ} {l : List ℕ} → Path (Step g) roots (p ∷ l) → Distinct (p ∷ l) → length l ≡ limit → Why g roots limit Q (deep p)

module _ (g : List Node) (roots : List ℕ) (limit : ℕ) where
  onward_why : {Q R : State → Type 0} (w : Walked) (f : State → Walked) → Why g roots limit Q w → ((t : State) → Q t → Why g roots limit R (f t)) → Why g roots limit R (onward w f)
  unfolding onward
  onward_why w f (fine q) k = k _ q
  onward_why w f (met a b) k = met a b
  onward_why w f (full a b c) k = full a b c

  why_map : {Q R : State → Type 0} {w : Walked} → ((t : State) → Q t → R t) → Why g roots limit Q w → Why g roots limit R w
  why_map k (fine q) = fine (k _ q)
  why_map k (met a b) = met a b
  why_map k (full a b c) = full a b c

  joined_came : (s t : State) (p : ℕ) (ps : List ℕ) → Came g s (p ∷ []) t → (u : State) → Came g t ps u → Came g s (p ∷ ps) u
  joined_came s t p ps a u b = record { closed = b.closed; kept = λ c m. b.kept c (a.kept c m); ended = λ c m. go c (Memᴰ.cases_cons m) }
    where
      go : (c : ℕ) → (c ≡ p) ⊎ Memᴰ c ps → Memᴰ c (positions u.done)
      go c (inl e) = b.kept c (a.ended c (Memᴰ.head e))
      go c (inr m) = b.ended c m

  finish_came : (s t : State) (p : ℕ) → Came g s (next g p) t → Came g s (p ∷ []) (finish g p t)
  finish_came s t p a = record {
    closed = rw finish_positions (after a.ended a.closed);
    kept = λ c m. rw finish_positions (Memᴰ.tail (a.kept c m));
    ended = λ c m. rw finish_positions (Memᴰ.head (Memᴰ.eq_of_singleton m));
  }

  enter_why : (path : List ℕ) (p : ℕ) (s : State) → Path (Step g) roots (p ∷ path) → Closed g (positions s.done) → (m : Mark) → mark path s p ≡ m → (f : State → Walked)
      → (¬ Memᴰ p path → Why g roots limit (Came g s (p ∷ [])) (f s)) → Why g roots limit (Came g s (p ∷ [])) (enter m p s f)
  unfolding enter mark
  enter_why path p s w h finished e f k =
      let (i, q) = finished_some (id_in s.done p) (has p path) e in
      fine {s = s} (record { closed = h; kept = λ c m. m; ended = λ c m. rw (Memᴰ.eq_of_singleton m) (id_in_in s.done p i q) })
  enter_why path p s w h opened e f k = met w (has_in p path (opened_has (id_in s.done p) (has p path) e))
  enter_why path p s w h unseen e f k = k (not_in p path (unseen_has (id_in s.done p) (has p path) e))

  each_why : (f : ℕ → State → Walked) (ps : List ℕ) (s : State) → Closed g (positions s.done)
      → ((c : ℕ) → Memᴰ c ps → (t : State) → Closed g (positions t.done) → Why g roots limit (Came g t (c ∷ [])) (f c t))
      → Why g roots limit (Came g s ps) (each f ps s)
  unfolding each
  each_why f [] s h k = fine (record { closed = h; kept = λ c m. m; ended = λ c m. absurd (Memᴰ.not-nil m) })
  each_why f (p ∷ ps) s h k =
      onward_why (f p s) (λ t. each f ps t) (k p (Memᴰ.head refl) s h)
      (λ t q. why_map (joined_came s t p ps q) (each_why f ps t q.closed (λ c m. k c (Memᴰ.tail m))))

  visit_why : (d : ℕ) (path : List ℕ) (p : ℕ) (s : State) → Path (Step g) roots (p ∷ path) → Distinct path → d + length path ≡ limit → Closed g (positions s.done)
      → Why g roots limit (Came g s (p ∷ [])) (visit g d path p s)
  unfolding visit
  visit_why zero path p s w u e h =
      enter_why path p s w h (mark path s p) refl (λ t. deep p)
      (λ n. full w (fresh n u) (omega arith))
  visit_why (suc d) path p s w u e h =
      enter_why path p s w h (mark path s p) refl (λ t. onward (each (visit g d (p ∷ path)) (next g p) t) (λ v. going (finish g p v)))
      (λ n. onward_why (each (visit g d (p ∷ path)) (next g p) s) (λ v. going (finish g p v))
      (each_why (visit g d (p ∷ path)) (next g p) s h (λ c m t k. visit_why d (p ∷ path) c t (onto w (next_step g p c m)) (fresh n u) (omega arith) k))
      (λ t q. fine (finish_came s t p q)))

  pub walk_why : Why g roots limit (Came g start roots) (walk g limit roots)
  unfolding walk start
  walk_why = each_why (visit g limit []) roots start nothing (λ c m t k. visit_why limit [] c t (root m) empty (omega arith) k)
