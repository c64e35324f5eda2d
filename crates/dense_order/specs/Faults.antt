-- Validate, record by record.
-- Assumes nothing: these are definitions.
use Rattle.std.specs.Prelude.{ℕ, zero, suc, List, Option}
use Rattle.record.specs.Node.{node_at}
use Rattle.forest.specs.Validate.{forward, fault}
use Rattle.forest.specs.declared.Reply.{Reply}

-- what is wrong first with record number i, after the one before it, if there is one
unfoldable pub fault_at : List ℕ → ℕ → Option Reply
fault_at s zero = forward zero (node_at s zero)
fault_at s (suc j) = fault (suc j) (node_at s j) (node_at s (suc j))
