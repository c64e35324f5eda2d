-- Document 01, Validate: whether node records stand in dense order.
-- Assumes nothing: these are definitions.
use Rattle.std.specs.Prelude.{ℕ, suc, ◌/◌, ◌%◌, not, ◌&&◌, List, [], ◌∷◌, leb, ltb, eqb, length, Option, Some, None}
use Rattle.record.specs.Order.{before}
use Rattle.record.specs.Node.{size, nodes_of, bad, class, rank, is_external, children}
use Rattle.record.specs.declared.Node.{Node}
use Rattle.forest.specs.Lists.{lowest, last_of}
use Rattle.forest.specs.Lent.{most, when, naming, first}
use Rattle.forest.specs.declared.Reply.{Reply}
use Rattle.forest.specs.declared.Reply.TheVariants.{Accepted, BadBuffers, TooMany, BadRecord, ClassOrder, DigestOrder, ForwardReference}

-- BadRecord, for the lowest bad record
unfoldable pub bad_record : List ℕ → Option Reply
bad_record b = naming BadRecord (lowest bad (nodes_of b))

-- the last child of node p that is not below it
unfoldable pub forward : ℕ → Node → Option Reply
forward p m = naming (ForwardReference p) (last_of (leb p) (children m))

-- what fails first at node p, where n is the node before it
unfoldable pub fault : ℕ → Node → Node → Option Reply
fault p n m = first (
    when (ltb (rank (class m)) (rank (class n))) (ClassOrder p)
    ∷ when (is_external m && (is_external n && not (before n.digest m.digest))) (DigestOrder p)
    ∷ forward p m
    ∷ [])

-- node by node from p on, where n is the node before them
unfoldable pub faults : ℕ → Node → List Node → List (Option Reply)
faults p n [] = []
faults p n (m ∷ ms) = fault p n m ∷ faults (suc p) m ms

-- node by node; the first has no node before it
unfoldable pub node_faults : List Node → List (Option Reply)
node_faults [] = []
node_faults (m ∷ ms) = forward 0 m ∷ faults 1 m ms

-- 2, 1, 3 (all records), then node by node 10, 11, 12
unfoldable pub validate_refusals : List ℕ → List (Option Reply)
validate_refusals b =
    when (ltb most (length b / size)) TooMany
    ∷ when (not (eqb (length b % size) 0)) (BadBuffers 2)
    ∷ bad_record b
    ∷ node_faults (nodes_of b)

unfoldable pub or_accepted : ℕ → Option Reply → Reply
or_accepted n None = Accepted n 0
or_accepted n (Some r) = r

-- Validate: it is lent node records alone
unfoldable pub validate : List ℕ → Reply
validate b = or_accepted (length b / size) (first (validate_refusals b))
