-- A call that passes its checks, and what its outcome then hangs on.
-- Assumes nothing.
use Rattle.std.specs.Prelude.{ℕ, ◌/◌, ◌≤◌, ◌≡◌, refl, Bool, true, false, ◌||◌, List, [], ◌∷◌, ◌++◌, ltb, length, Option, None}
use Rattle.std.proofs.Common.{◌∙◌, ltb-false, le-ltb}
use Rattle.record.specs.Node.{size}
use Rattle.record.proofs.Basics.{clash, either_false}
use Rattle.forest.specs.Lent.{Input, Room, Outcome, Result, refuse, accept, when, first, answered}
use Rattle.forest.specs.Merge.{graph, roots_of, merge_checks, stopped, state_of, short, merge_refusals, merged, merge}
use Rattle.forest.specs.Walk.{Walked, going, cycle, deep, walk}
use Rattle.forest.specs.declared.Reply.{Reply}
use Rattle.forest.specs.declared.Reply.TheVariants.{Accepted, Cycle, TooDeep, NoRoom}
use Rattle.claims.specs.Checks.{first_append}

-- checks that pass decide nothing
pub answered_past : (m : Room) (os ps : List (Option Reply)) (r : Result) → first os ≡ None → answered m (os ++ ps) r ≡ answered m ps r
unfolding answered
answered_past m os ps r e = rw (first_append os ps e, answered)

-- the result, if there is room for it
unfoldable pub delivered : Room → Result → Outcome
delivered m r = answered m (short m r ∷ []) r

-- what a merge answers when its walk has come to w
unfoldable pub settled : Input → Room → Walked → Outcome
settled i m (going s) = delivered m (merged (graph i) (roots_of i) s)
settled i m (cycle p) = refuse m (Cycle p)
settled i m (deep p) = refuse m (TooDeep p)

-- a merge past its checks answers what its walk comes to
pub past_checks : (limit : ℕ) (i : Input) (m : Room) → first (merge_checks limit i m) ≡ None → merge limit i m ≡ settled i m (walk (graph i) limit (roots_of i))
unfolding merge merge_refusals answered first stopped state_of settled delivered
past_checks limit i m e = answered_past m (merge_checks limit i m) _ _ e ∙ walked (walk (graph i) limit (roots_of i))
  where
    walked : (w : Walked) → answered m (stopped w ∷ short m (merged (graph i) (roots_of i) (state_of w)) ∷ []) (merged (graph i) (roots_of i) (state_of w)) ≡ settled i m w
    walked (going s) = refl
    walked (cycle p) = refl
    walked (deep p) = refl

-- a finished walk is accepted or has no room
pub data Finishes : Reply → Type 0 where
  fits : {n k : ℕ} → Finishes (Accepted n k)
  lacks : {n k : ℕ} → Finishes (NoRoom n k)

-- where there is room the result is accepted
pub delivered_fits : (m : Room) (r : Result) → length r.nodes ≤ length m.nodes / size → length r.roots ≤ length m.roots → delivered m r ≡ accept m r
unfolding delivered answered short when first
delivered_fits m r a b = rw (le-ltb _ _ a, le-ltb _ _ b)

-- there is room, or there is not
pub data Fitting (m : Room) (r : Result) : Type 0 where
  roomy : length r.nodes ≤ length m.nodes / size → length r.roots ≤ length m.roots → delivered m r ≡ accept m r → Fitting m r
  cramped : delivered m r ≡ refuse m (NoRoom (length r.nodes) (length r.roots)) → Fitting m r

pub fitting : (m : Room) (r : Result) → Fitting m r
unfolding delivered answered short when first
fitting m r = go (ltb (length m.nodes / size) (length r.nodes) || ltb (length m.roots) (length r.roots)) refl
  where
    go : (b : Bool) → (ltb (length m.nodes / size) (length r.nodes) || ltb (length m.roots) (length r.roots)) ≡ b → Fitting m r
    go true e = cramped (rw e)
    go false e = let (x, y) = either_false (ltb (length m.nodes / size) (length r.nodes)) _ e in let u = ltb-false _ _ x in let v = ltb-false _ _ y in roomy u v (delivered_fits m r u v)

pub delivered_finishes : (m : Room) (r : Result) → Finishes (delivered m r).reply
unfolding accept refuse
delivered_finishes m r = go (fitting m r)
  where
    go : Fitting m r → Finishes (delivered m r).reply
    go (roomy a b e) = rw e fits
    go (cramped e) = rw e lacks

not_cycle : {r : Reply} {p : ℕ} → r ≡ Cycle p → Finishes r → ⊥
not_cycle e fits = clash (cc)
not_cycle e lacks = clash (cc)

not_deep : {r : Reply} {p : ℕ} → r ≡ TooDeep p → Finishes r → ⊥
not_deep e fits = clash (cc)
not_deep e lacks = clash (cc)

-- which walk a reply tells of
pub settled_cycle : (i : Input) (m : Room) (p : ℕ) (w : Walked) → (settled i m w).reply ≡ Cycle p → w ≡ cycle p
unfolding settled refuse
settled_cycle i m p (going s) e = absurd (not_cycle e (delivered_finishes m _))
settled_cycle i m p (cycle q) e = cc
settled_cycle i m p (deep q) e = cc

pub settled_deep : (i : Input) (m : Room) (p : ℕ) (w : Walked) → (settled i m w).reply ≡ TooDeep p → w ≡ deep p
unfolding settled refuse
settled_deep i m p (going s) e = absurd (not_deep e (delivered_finishes m _))
settled_deep i m p (cycle q) e = cc
settled_deep i m p (deep q) e = cc
