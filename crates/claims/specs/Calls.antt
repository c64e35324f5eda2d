-- The three calls as one: which call it is, what it is lent, and its outcome.
-- Assumes nothing: these are definitions.
use Rattle.std.specs.Prelude.{ℕ, List, [], Option}
use Rattle.forest.specs.Canonicalize.{canonicalize_refusals, canonicalize}
use Rattle.forest.specs.Lent.{Input, Room, Outcome}
use Rattle.forest.specs.Merge.{graph, roots_of, state_of, merge_refusals, merged, merge}
use Rattle.forest.specs.Validate.{validate_refusals, validate}
use Rattle.forest.specs.Walk.{Walked, walk}
use Rattle.forest.specs.declared.Reply.{Reply}

-- Merge takes its depth limit along
pub data Call : Type 0 where
  validating canonicalizing : Call
  merging : ℕ → Call

-- Validate is lent no room
unfoldable pub no_room : Room
no_room = record { nodes = []; roots = []; ids = []; work = [] }

-- of a room, what is lent to the call
unfoldable pub lent : Call → Room → Room
lent validating m = no_room
lent canonicalizing m = m
lent (merging limit) m = m

unfoldable pub outcome : Call → Input → Room → Outcome
outcome validating i m = record { reply = validate i.nodes; room = no_room }
outcome canonicalizing i m = canonicalize i m
outcome (merging limit) i m = merge limit i m

-- the refusals of a call, in document 01's order: the first that applies decides
unfoldable pub refusals : Call → Input → Room → List (Option Reply)
refusals validating i m = validate_refusals i.nodes
refusals canonicalizing i m = canonicalize_refusals i m
refusals (merging limit) i m =
    let w : Walked = walk (graph i) limit (roots_of i) in
    merge_refusals limit i m w (merged (graph i) (roots_of i) (state_of w))
