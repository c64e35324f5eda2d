-- No refusal is an acceptance: each member of each list of refusals refuses.
-- Assumes nothing.
use Rattle.std.specs.Prelude.{ℕ, suc, ◌<◌, ◌≤◌, ◌≡◌, refl, Bool, true, false, List, [], ◌∷◌, ◌++◌, ◌≢◌, Option, Some, None}
use Rattle.std.proofs.Common.{arith}
use Rattle.record.specs.Node.{nodes_of}
use Rattle.record.specs.declared.Node.{Node}
use Rattle.record.proofs.Basics.{clash}
use Rattle.forest.specs.Canonicalize.{alone, root_range, child_range, canonicalize_checks, disorders, canonicalize_refusals}
use Rattle.forest.specs.Graph.{Forest}
use Rattle.forest.specs.Lent.{Input, Room, Outcome, Result, refuse, when, naming, first, answered}
use Rattle.forest.specs.Merge.{forests_of, merge_checks, stopped, short, merge_refusals}
use Rattle.forest.specs.Reply.{told}
use Rattle.forest.specs.Validate.{bad_record, forward, fault, faults, node_faults, validate_refusals}
use Rattle.forest.specs.Walk.{Walked, going, cycle, deep}
use Rattle.forest.specs.declared.Reply.{Reply}
use Rattle.forest.specs.declared.Reply.TheVariants.{Accepted, BadBuffers, TooMany, BadRecord, RootRange, DuplicateExternal, ChildRange, Cycle, TooDeep, NoRoom, ClassOrder, DigestOrder, ForwardReference, BadLimit}

-- the reply refuses
abbrev pub Refuses : Reply → Type 0
Refuses r = (n k : ℕ) → r ≢ Accepted n k

-- whatever the list holds refuses
pub data AllRefuse : List (Option Reply) → Type 0 where
  refuse_nil : AllRefuse []
  refuse_cons : {o : Option Reply} {os : List (Option Reply)} → ((r : Reply) → o ≡ Some r → Refuses r) → AllRefuse os → AllRefuse (o ∷ os)

pub first_refuses : {os : List (Option Reply)} → AllRefuse os → (r : Reply) → first os ≡ Some r → Refuses r
unfolding first
first_refuses refuse_nil r e = absurd (clash (cc))
first_refuses (refuse_cons {o = None} h a) r e = first_refuses a r e
first_refuses (refuse_cons {o = Some x} h a) r e = h r e

append_refuses : {os ps : List (Option Reply)} → AllRefuse os → AllRefuse ps → AllRefuse (os ++ ps)
append_refuses refuse_nil b = b
append_refuses (refuse_cons h a) b = refuse_cons h (append_refuses a b)

-- THE MEMBERS -------------------------------------------------------------------------------------

when_refuses : (b : Bool) (x : Reply) → Refuses x → (r : Reply) → when b x ≡ Some r → Refuses r
unfolding when
when_refuses true x h r e n k q = h n k cc
when_refuses false x h r e n k q = clash (cc)

naming_refuses : {A : Type 0} (f : A → Reply) → ((a : A) → Refuses (f a)) → (o : Option A) (r : Reply) → naming f o ≡ Some r → Refuses r
unfolding naming
naming_refuses f h None r e n k q = clash (cc)
naming_refuses f h (Some a) r e n k q = h a n k cc

too_many : Refuses TooMany
too_many n k e = clash (cc)

bad_buffers : (b : ℕ) → Refuses (BadBuffers b)
bad_buffers b n k e = clash (cc)

bad_record_lem : (b : List ℕ) (r : Reply) → bad_record b ≡ Some r → Refuses r
unfolding bad_record
bad_record_lem b = naming_refuses BadRecord (λ p n k e. clash (cc)) _

root_range_lem : (fs : List Forest) (r : Reply) → root_range fs ≡ Some r → Refuses r
unfolding root_range
root_range_lem fs = naming_refuses RootRange (λ p n k e. clash (cc)) _

child_range_lem : (fs : List Forest) (r : Reply) → child_range fs ≡ Some r → Refuses r
unfolding child_range
child_range_lem fs = naming_refuses _ (λ p n k e. clash (cc)) _

forward_refuses : (p : ℕ) (m : Node) (r : Reply) → forward p m ≡ Some r → Refuses r
unfolding forward
forward_refuses p m = naming_refuses (ForwardReference p) (λ c n k e. clash (cc)) _

fault_refuses : (p : ℕ) (n m : Node) (r : Reply) → fault p n m ≡ Some r → Refuses r
unfolding fault
fault_refuses p n m =
    first_refuses
    (refuse_cons (when_refuses _ (ClassOrder p) (λ n k e. clash (cc)))
    (refuse_cons (when_refuses _ (DigestOrder p) (λ n k e. clash (cc)))
    (refuse_cons (forward_refuses p m) refuse_nil)))

faults_refuse : (p : ℕ) (n : Node) (ms : List Node) → AllRefuse (faults p n ms)
unfolding faults
faults_refuse p n [] = refuse_nil
faults_refuse p n (m ∷ ms) = refuse_cons (fault_refuses p n m) (faults_refuse (suc p) m ms)

node_faults_refuse : (ms : List Node) → AllRefuse (node_faults ms)
unfolding node_faults
node_faults_refuse [] = refuse_nil
node_faults_refuse (m ∷ ms) = refuse_cons (forward_refuses 0 m) (faults_refuse 1 m ms)

-- THE LISTS ---------------------------------------------------------------------------------------

pub validate_refuses : (b : List ℕ) → AllRefuse (validate_refusals b)
unfolding validate_refusals
validate_refuses b =
    refuse_cons (when_refuses _ _ too_many) (refuse_cons (when_refuses _ _ (bad_buffers 2)) (refuse_cons (bad_record_lem b) (node_faults_refuse (nodes_of b))))

pub disorders_refuse : (g : List Node) → AllRefuse (disorders g)
unfolding disorders
disorders_refuse g =
    refuse_cons (naming_refuses DuplicateExternal (λ p n k e. clash (cc)) _)
    (refuse_cons (child_range_lem (alone g []))
    (refuse_cons (naming_refuses Cycle (λ p n k e. clash (cc)) _) refuse_nil))

pub canonicalize_refuses : (i : Input) (m : Room) → AllRefuse (canonicalize_refusals i m)
unfolding canonicalize_refusals canonicalize_checks
canonicalize_refuses i m =
    append_refuses
    (refuse_cons (when_refuses _ _ too_many)
    (refuse_cons (when_refuses _ _ (bad_buffers 2))
    (refuse_cons (when_refuses _ _ (bad_buffers 4))
    (refuse_cons (when_refuses _ _ (bad_buffers 5))
    (refuse_cons (when_refuses _ _ (bad_buffers 6))
    (refuse_cons (when_refuses _ _ (bad_buffers 7))
    (refuse_cons (bad_record_lem i.nodes)
    (refuse_cons (root_range_lem _) refuse_nil))))))))
    (disorders_refuse (nodes_of i.nodes))

stopped_refuses : (w : Walked) (r : Reply) → stopped w ≡ Some r → Refuses r
unfolding stopped
stopped_refuses (going s) r e n k q = clash (cc)
stopped_refuses (cycle p) r e n k q = clash (cc)
stopped_refuses (deep p) r e n k q = clash (cc)

short_refuses : (m : Room) (x : Result) (r : Reply) → short m x ≡ Some r → Refuses r
unfolding short
short_refuses m x = when_refuses _ _ (λ n k e. clash (cc))

pub merge_refuses : (limit : ℕ) (i : Input) (m : Room) (w : Walked) (x : Result) → AllRefuse (merge_refusals limit i m w x)
unfolding merge_refusals merge_checks
merge_refuses limit i m w x =
    append_refuses
    (refuse_cons (when_refuses _ BadLimit (λ n k e. clash (cc)))
    (refuse_cons (when_refuses _ _ too_many)
    (refuse_cons (when_refuses _ _ (bad_buffers 1))
    (refuse_cons (when_refuses _ _ (bad_buffers 2))
    (refuse_cons (when_refuses _ _ (bad_buffers 3))
    (refuse_cons (when_refuses _ _ (bad_buffers 6))
    (refuse_cons (when_refuses _ _ (bad_buffers 7))
    (refuse_cons (bad_record_lem i.nodes)
    (refuse_cons (root_range_lem (forests_of i))
    (refuse_cons (child_range_lem (forests_of i)) refuse_nil))))))))))
    (refuse_cons (stopped_refuses w) (refuse_cons (short_refuses m x) refuse_nil))

-- ACCEPTED ----------------------------------------------------------------------------------------

-- the call is accepted
pub record IsAccepted (o : Outcome) : Type 0 where
  pub nodes : ℕ
  pub roots : ℕ
  pub says : o.reply ≡ Accepted nodes roots

-- what is accepted was refused by nothing
pub accepted_past : (m : Room) (os : List (Option Reply)) (r : Result) → AllRefuse os → IsAccepted (answered m os r) → first os ≡ None
unfolding answered refuse
accepted_past m os r h a = go (first os) refl
  where
    go : (o : Option Reply) → first os ≡ o → first os ≡ None
    go None e = e
    go (Some x) e = absurd (first_refuses h x e a.nodes a.roots (let z = a.says in rw (e, answered) at z))

-- NUMBERS -----------------------------------------------------------------------------------------

-- a reply is an acceptance, which is 0, or has one of the other numbers
pub data Numbered (r : Reply) : Type 0 where
  zeroth : (n k : ℕ) → r ≡ Accepted n k → Numbered r
  other : 0 < (told r).number → (told r).number ≤ 13 → Numbered r

pub number_of : (r : Reply) → Numbered r
number_of (Accepted a b) = zeroth a b refl
number_of (BadBuffers a) = other (omega arith) (omega arith)
number_of TooMany = other (omega arith) (omega arith)
number_of (BadRecord a) = other (omega arith) (omega arith)
number_of (RootRange a) = other (omega arith) (omega arith)
number_of (DuplicateExternal a) = other (omega arith) (omega arith)
number_of (ChildRange a b) = other (omega arith) (omega arith)
number_of (Cycle a) = other (omega arith) (omega arith)
number_of (TooDeep a) = other (omega arith) (omega arith)
number_of (NoRoom a b) = other (omega arith) (omega arith)
number_of (ClassOrder a) = other (omega arith) (omega arith)
number_of (DigestOrder a) = other (omega arith) (omega arith)
number_of (ForwardReference a b) = other (omega arith) (omega arith)
number_of BadLimit = other (omega arith) (omega arith)
