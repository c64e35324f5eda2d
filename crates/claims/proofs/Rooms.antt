-- Demand 3: more output room changes no answer but NoRoom, and what was accepted keeps its records, roots and id list.
-- Assumes nothing.
use Rattle.std.specs.Prelude.{ℕ, ◌*◌, ◌≤◌, ◌≡◌, refl, ◌≢◌, length}
use Rattle.std.proofs.Common.{sym, ◌∙◌, arith}
use Rattle.record.specs.Lists.{flat}
use Rattle.record.specs.Node.{size, node_bytes}
use Rattle.record.proofs.Basics.{clash}
use Rattle.forest.specs.Lent.{Input, Room, Result, refuse, accept}
use Rattle.forest.specs.Merge.{graph, roots_of, merge}
use Rattle.forest.specs.Walk.{Walked, going, cycle, deep, walk}
use Rattle.forest.specs.declared.Reply.{Reply}
use Rattle.forest.specs.declared.Reply.TheVariants.{Accepted, Cycle, TooDeep, NoRoom}
use Rattle.claims.specs.Cycles.{Passes}
use Rattle.claims.specs.Limits.{walk_wider, not_stopped}
use Rattle.claims.specs.Origins.{merged_records}
use Rattle.claims.specs.Settled.{delivered, settled, past_checks, delivered_fits, Fitting, roomy, cramped, fitting}
use Rattle.claims.specs.Rooms.{Kept, take_over, Roomier}

accept_kept : (m m' : Room) (r : Result) → length (flat node_bytes r.nodes) ≡ size * length r.nodes → Kept (accept m r) (accept m' r)
unfolding accept
accept_kept m m' r h = record {
  reply = refl;
  records = λ n k e. let q : length (flat node_bytes r.nodes) ≡ size * n = h ∙ cc in take_over m'.nodes _ _ q ∙ sym (take_over m.nodes _ _ q);
  roots = λ n k e. let q : length r.roots ≡ k = cc in take_over m'.roots _ _ q ∙ sym (take_over m.roots _ _ q);
  ids = λ n k e. refl;
}

delivered_kept : (m m' : Room) (r : Result) → length (flat node_bytes r.nodes) ≡ size * length r.nodes → length m.nodes ≤ length m'.nodes → length m.roots ≤ length m'.roots
    → ((n k : ℕ) → (delivered m r).reply ≢ NoRoom n k) → Kept (delivered m r) (delivered m' r)
unfolding refuse
delivered_kept m m' r s a b h = go (fitting m r)
  where
    go : Fitting m r → Kept (delivered m r) (delivered m' r)
    go (cramped e) = absurd (h (length r.nodes) (length r.roots) (rw e))
    go (roomy x y e) = rw (e, delivered_fits m' r (omega arith) (omega arith)) (accept_kept m m' r s)

-- a refusal of the walk stays what it was
refuse_kept : (m m' : Room) (r : Reply) → ((n k : ℕ) → r ≢ Accepted n k) → Kept (refuse m r) (refuse m' r)
unfolding refuse
refuse_kept m m' r h = record { reply = refl; records = λ n k e. absurd (h n k e); roots = λ n k e. absurd (h n k e); ids = λ n k e. absurd (h n k e) }

-- what the same walk comes to
settled_kept : (l : ℕ) (i : Input) (m m' : Room) → Roomier m m' → (v : Walked) → walk (graph i) l (roots_of i) ≡ v → ((n j : ℕ) → (settled i m v).reply ≢ NoRoom n j) → Kept (settled i m v) (settled i m' v)
unfolding settled
settled_kept l i m m' w (going s) e n = delivered_kept m m' _ (merged_records i l s e) w.nodes w.roots n
settled_kept l i m m' w (cycle q) e n = refuse_kept m m' (Cycle q) (λ n k e. clash (cc))
settled_kept l i m m' w (deep q) e n = refuse_kept m m' (TooDeep q) (λ n k e. clash (cc))

-- More output room changes no answer but NoRoom, and what was accepted keeps its records, roots and id list
pub more_room : (l : ℕ) (i : Input) (m m' : Room) → Passes l i m → Passes l i m' → Roomier m m' → ((n j : ℕ) → (merge l i m).reply ≢ NoRoom n j) → Kept (merge l i m) (merge l i m')
more_room l i m m' p p' w n = rw (past_checks l i m p, past_checks l i m' p') (settled_kept l i m m' w _ refl (rw (past_checks l i m p) at n))

-- A larger limit and more room together: only TooDeep and NoRoom change, and what was accepted keeps its records, roots and id list
pub wider : (l k : ℕ) (i : Input) (m m' : Room) → Passes l i m → Passes k i m' → l ≤ k → Roomier m m'
    → ((p : ℕ) → (merge l i m).reply ≢ TooDeep p) → ((n j : ℕ) → (merge l i m).reply ≢ NoRoom n j) → Kept (merge l i m) (merge k i m')
wider l k i m m' p p' h w d n =
    rw (past_checks l i m p, past_checks k i m' p', walk_wider (graph i) l k (roots_of i) h (not_stopped l i m p d)) (settled_kept l i m m' w _ refl (rw (past_checks l i m p) at n))
