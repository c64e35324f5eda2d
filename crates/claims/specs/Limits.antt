-- Demand 3: a larger limit changes no answer but TooDeep.
-- Assumes nothing.
use Rattle.std.specs.Prelude.{ℕ, zero, suc, ◌≤◌, ◌≡◌, refl, List, [], ◌∷◌, ◌≢◌}
use Rattle.std.proofs.Common.{le_of_suc-le-suc, not-suc-le-zero}
use Rattle.record.specs.declared.Node.{Node}
use Rattle.forest.specs.Graph.{next}
use Rattle.forest.specs.Lent.{Input, Room, refuse}
use Rattle.forest.specs.Merge.{graph, roots_of, merge}
use Rattle.forest.specs.Walk.{State, start, Walked, going, cycle, deep, Mark, finished, opened, unseen, mark, onward, each, enter, visit, walk}
use Rattle.forest.specs.declared.Reply.TheVariants.{TooDeep}
use Rattle.claims.specs.Cycles.{Passes}
use Rattle.claims.specs.Settled.{settled, past_checks}

-- the second walk answers the same, unless the first is too deep
data Upto : Walked → Walked → Type 0 where
  alike : {w : Walked} → Upto w w
  passed : {p : ℕ} {w : Walked} → Upto (deep p) w

onward_upto : {v w : Walked} {f h : State → Walked} → Upto v w → ((t : State) → Upto (f t) (h t)) → Upto (onward v f) (onward w h)
unfolding onward
onward_upto {f = f} {h = h} (alike {w = w}) k = go w
  where
    go : (w : Walked) → Upto (onward w f) (onward w h)
    go (going s) = k s
    go (cycle p) = alike
    go (deep p) = alike
onward_upto passed k = passed

each_upto : (f h : ℕ → State → Walked) → ((c : ℕ) (t : State) → Upto (f c t) (h c t)) → (ps : List ℕ) (s : State) → Upto (each f ps s) (each h ps s)
unfolding each
each_upto f h k [] s = alike
each_upto f h k (p ∷ ps) s = onward_upto (k p s) (λ t. each_upto f h k ps t)

enter_upto : (a : Mark) (p : ℕ) (s : State) {f h : State → Walked} → ((t : State) → Upto (f t) (h t)) → Upto (enter a p s f) (enter a p s h)
unfolding enter
enter_upto finished p s k = alike
enter_upto opened p s k = alike
enter_upto unseen p s k = k s

visit_upto : (g : List Node) (d e : ℕ) → d ≤ e → (path : List ℕ) (p : ℕ) (s : State) → Upto (visit g d path p s) (visit g e path p s)
unfolding visit
visit_upto g zero zero h path p s = alike
visit_upto g zero (suc e) h path p s = enter_upto (mark path s p) p s (λ t. passed)
visit_upto g (suc d) zero h path p s = absurd (not-suc-le-zero h)
visit_upto g (suc d) (suc e) h path p s =
    enter_upto (mark path s p) p s (λ t. onward_upto (each_upto _ _ (visit_upto g d e (le_of_suc-le-suc h) (p ∷ path)) (next g p) t) (λ u. alike))

-- so a walk that is not too deep comes to the same under a larger limit
pub walk_wider : (g : List Node) (l k : ℕ) (roots : List ℕ) → l ≤ k → ((p : ℕ) → walk g l roots ≢ deep p) → walk g k roots ≡ walk g l roots
unfolding walk
walk_wider g l k roots h n = go refl (each_upto _ _ (visit_upto g l k h []) roots start)
  where
    go : {v w : Walked} → walk g l roots ≡ v → Upto v w → w ≡ v
    go e alike = refl
    go e (passed {p = p}) = absurd (n p e)

-- a merge that is not TooDeep was not stopped for its depth
pub not_stopped : (l : ℕ) (i : Input) (m : Room) → Passes l i m → ((p : ℕ) → (merge l i m).reply ≢ TooDeep p) → (p : ℕ) → walk (graph i) l (roots_of i) ≢ deep p
unfolding settled refuse
not_stopped l i m a n p e = n p (rw (past_checks l i m a, e))

-- A larger limit changes no answer but TooDeep, and nothing else of the outcome
pub larger_limit : (l k : ℕ) (i : Input) (m : Room) → Passes l i m → Passes k i m → l ≤ k → ((p : ℕ) → (merge l i m).reply ≢ TooDeep p) → merge k i m ≡ merge l i m
larger_limit l k i m a b h n = rw (past_checks k i m b, past_checks l i m a, walk_wider (graph i) l k (roots_of i) h (not_stopped l i m a n))
