-- What every call leaves, said once over all three.
-- Assumes nothing.
use Rattle.std.specs.Prelude.{ℕ, ◌+◌, ◌*◌, ◌≤◌, ◌≡◌, refl, Bool, true, false, List, length, drop, replicate, Some, None}
use Rattle.std.proofs.Common.{sym, ◌∙◌, arith, length-append, length-drop, drop_at}
use Rattle.std.proofs.lemmas.List.{length-replicate}
use Rattle.record.specs.Lists.{over, flat}
use Rattle.record.specs.Node.{size, node_bytes}
use Rattle.record.proofs.Basics.{clash}
use Rattle.forest.specs.Lent.{Input, Room, Outcome, leaves_work, worked, refuse, accept, first}
use Rattle.forest.specs.declared.Reply.{Reply}
use Rattle.forest.specs.declared.Reply.TheVariants.{Accepted}
use Rattle.claims.specs.Calls.{Call, no_room, lent, outcome, refusals}
use Rattle.claims.specs.Endings.{Ending, refused, delivered, validated, worked_none, ending}
use Rattle.claims.specs.Refusals.{Refuses, IsAccepted}

-- an outcome satisfies a call's contract: it is the definition's
abbrev pub Satisfies : Call → Input → Room → Outcome → Type 0
Satisfies c i m o = o ≡ outcome c i m

-- any two outcomes that satisfy a call's contract are one
pub one_outcome : (c : Call) (i : Input) (m : Room) (o o' : Outcome) → Satisfies c i m o → Satisfies c i m o' → o ≡ o'
one_outcome c i m o o' e e' = e ∙ sym e'

-- the first refusal of a call's list is its reply; if none applies, the call is accepted
pub first_decides : (c : Call) (i : Input) (m : Room) (r : Reply) → first (refusals c i m) ≡ Some r → (outcome c i m).reply ≡ r
unfolding refuse
first_decides c i m r h = go (ending c i m)
  where
    go : Ending c i m → (outcome c i m).reply ≡ r
    go (refused x q f e) = rw e (let z : Some x ≡ Some r = sym q ∙ h in cc)
    go (delivered x q f e) = absurd (clash (let z : None ≡ Some r = sym q ∙ h in cc))
    go (validated n q l e) = absurd (clash (let z : None ≡ Some r = sym q ∙ h in cc))

pub none_accepts : (c : Call) (i : Input) (m : Room) → first (refusals c i m) ≡ None → IsAccepted (outcome c i m)
unfolding accept
none_accepts c i m h = go (ending c i m)
  where
    go : Ending c i m → IsAccepted (outcome c i m)
    go (refused x q f e) = absurd (clash (let z : Some x ≡ None = sym q ∙ h in cc))
    go (delivered r q f e) = record { nodes = length r.nodes; roots = length r.roots; says = rw e }
    go (validated n q l e) = record { nodes = n; roots = 0; says = rw e }

-- two rooms hold the same outputs
pub record SameOutputs (a b : Room) : Type 0 where
  pub nodes : a.nodes ≡ b.nodes
  pub roots : a.roots ≡ b.roots
  pub ids : a.ids ≡ b.ids

-- a refusal changes no output
pub refusal_changes_nothing : (c : Call) (i : Input) (m : Room) → Refuses (outcome c i m).reply → SameOutputs (outcome c i m).room (lent c m)
unfolding refuse accept
refusal_changes_nothing c i m h = go (ending c i m)
  where
    go : Ending c i m → SameOutputs (outcome c i m).room (lent c m)
    go (refused r q f e) = rw e (record { nodes = refl; roots = refl; ids = refl })
    go (delivered r q f e) = absurd (h (length r.nodes) (length r.roots) (rw e))
    go (validated n q l e) = absurd (h n 0 (rw e))

-- two rooms hold the same past n records and k roots
pub record SamePast (n k : ℕ) (a b : Room) : Type 0 where
  pub nodes : drop (size * n) a.nodes ≡ drop (size * n) b.nodes
  pub roots : drop k a.roots ≡ drop k b.roots

drop_over : (l new : List ℕ) (k : ℕ) → length new ≡ k → drop k (over l 0 new) ≡ drop k l
unfolding over
drop_over l new k e = let q : 0 + length new ≡ k = omega arith in rw q (drop_at new (drop k l) k e)

-- after acceptance output past the result is unchanged; the id list has nothing past it
pub past_unchanged : (c : Call) (i : Input) (m : Room) (n k : ℕ) → (outcome c i m).reply ≡ Accepted n k → SamePast n k (outcome c i m).room (lent c m)
unfolding refuse accept
past_unchanged c i m n k h = go (ending c i m)
  where
    go : Ending c i m → SamePast n k (outcome c i m).room (lent c m)
    go (refused r q f e) = absurd (f n k (let z = h in rw e at z))
    go (delivered r q f e) =
        let z : Accepted (length r.nodes) (length r.roots) ≡ Accepted n k = rw e at h in
        let a : length (flat node_bytes r.nodes) ≡ size * n = f.records ∙ cc in
        let b : length r.roots ≡ k = cc in
        rw e (record { nodes = drop_over (lent c m).nodes _ _ a; roots = drop_over (lent c m).roots _ _ b })
    go (validated j q l e) = rw (e, l) (record { nodes = refl; roots = refl })

-- two rooms are of the same lengths
pub record SameLengths (a b : Room) : Type 0 where
  pub nodes : length a.nodes ≡ length b.nodes
  pub roots : length a.roots ≡ length b.roots
  pub ids : length a.ids ≡ length b.ids
  pub work : length a.work ≡ length b.work

length_over : (l new : List ℕ) → length new ≤ length l → length (over l 0 new) ≡ length l
unfolding over
length_over l new h = simp (length-append, length-drop) (omega arith)

length_worked : (r : Reply) (w : List ℕ) → length (worked r w) ≡ length w
unfolding worked
length_worked r w = go (leaves_work r) refl
  where
    go : (b : Bool) → leaves_work r ≡ b → length (worked r w) ≡ length w
    go true e = rw (e, worked)
    go false e = rw (e, worked) (length-replicate (length w) (let z : ℕ = 0 in z))

-- no call changes the length of what it is lent
pub lengths_stay : (c : Call) (i : Input) (m : Room) → SameLengths (outcome c i m).room (lent c m)
unfolding refuse accept
lengths_stay c i m = go (ending c i m)
  where
    go : Ending c i m → SameLengths (outcome c i m).room (lent c m)
    go (refused r q f e) = rw e (record { nodes = refl; roots = refl; ids = refl; work = length_worked r (lent c m).work })
    go (delivered r q f e) =
        rw e
        (record {
          nodes = length_over (lent c m).nodes _ (let a = f.records in let b = f.nodes in omega arith);
          roots = length_over (lent c m).roots _ f.roots;
          ids = f.ids;
          work = length_worked _ (lent c m).work;
        })
    go (validated n q l e) = rw (e, l) (record { nodes = refl; roots = refl; ids = refl; work = refl })

-- the work room afterwards: unchanged after 13, 2 and 1, all zero after any other reply
work_after : (c : Call) (i : Input) (m : Room) → (outcome c i m).room.work ≡ worked (outcome c i m).reply (lent c m).work
unfolding refuse accept no_room
work_after c i m = go (ending c i m)
  where
    go : Ending c i m → (outcome c i m).room.work ≡ worked (outcome c i m).reply (lent c m).work
    go (refused r q f e) = rw e
    go (delivered r q f e) = rw e
    go (validated n q l e) = rw (e, l) (sym (worked_none (Accepted n 0)))

pub work_kept : (c : Call) (i : Input) (m : Room) → leaves_work (outcome c i m).reply ≡ true → (outcome c i m).room.work ≡ (lent c m).work
unfolding worked
work_kept c i m e = work_after c i m ∙ rw (e, worked)

pub work_zero : (c : Call) (i : Input) (m : Room) → leaves_work (outcome c i m).reply ≡ false → (outcome c i m).room.work ≡ replicate (length (lent c m).work) 0
unfolding worked
work_zero c i m e = work_after c i m ∙ rw (e, worked)
