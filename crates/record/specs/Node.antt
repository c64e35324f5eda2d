-- Document 01, 'Records': node records and table rows.
-- Assumes nothing: these are definitions.
use Rattle.std.specs.Prelude.{ℕ, zero, suc, ◌+◌, ◌*◌, ◌/◌, Bool, not, ◌&&◌, ◌||◌, List, ◌++◌, map, ltb, eqb, length, take, drop}
use Rattle.record.specs.Lists.{same, run, all, flat}
use Rattle.record.specs.Number.{number, numbers, bytes}
use Rattle.record.specs.declared.Class.{Class}
use Rattle.record.specs.declared.Class.TheVariants.{External, Block, Internal}
use Rattle.record.specs.declared.Node.{Node}
use Rattle.record.specs.declared.Row.{Row}

-- how many child fields and digest words a node record has
abbrev pub fields : ℕ
fields = 2

abbrev pub words : ℕ
words = 4

-- the bytes of a node record: kind, child count and child fields of 4 bytes each, digest words of 8 bytes each
abbrev pub size : ℕ
size = 8 + 4 * fields + 8 * words

-- the bytes of a table row: node count, root count
abbrev pub row_size : ℕ
row_size = 8

-- the highest kind
abbrev pub last_kind : ℕ
last_kind = 255

-- the node record that begins at place at
unfoldable pub record_at : List ℕ → ℕ → Node
record_at s at = record {
  kind = number 4 s at;
  count = number 4 s (at + 4);
  kids = numbers 4 fields s (at + 8);
  digest = numbers 8 words s (at + (8 + 4 * fields));
}

-- node record number i
unfoldable pub node_at : List ℕ → ℕ → Node
node_at s i = record_at s (size * i)

-- the whole node records
unfoldable pub nodes_of : List ℕ → List Node
nodes_of s = map (node_at s) (run 0 (length s / size))

-- the bytes of a node's record
unfoldable pub node_bytes : Node → List ℕ
node_bytes n = bytes 4 n.kind ++ (bytes 4 n.count ++ (flat (bytes 4) n.kids ++ flat (bytes 8) n.digest))

-- table row number i, and the whole rows
unfoldable pub row_at : List ℕ → ℕ → Row
row_at s i = record { nodes = number 4 s (row_size * i); roots = number 4 s (row_size * i + 4) }

unfoldable pub rows_of : List ℕ → List Row
rows_of s = map (row_at s) (run 0 (length s / row_size))

-- kind 0 is external, 1 a block, 2 and more internal
unfoldable pub class_of : ℕ → Class
class_of zero = External
class_of (suc zero) = Block
class_of (suc (suc k)) = Internal

-- the classes in their order
unfoldable pub rank : Class → ℕ
rank External = 0
rank Block = 1
rank Internal = 2

unfoldable pub class : Node → Class
class n = class_of n.kind

unfoldable pub is_external : Node → Bool
is_external n = eqb (rank (class n)) (rank External)

unfoldable pub is_block : Node → Bool
is_block n = eqb (rank (class n)) (rank Block)

unfoldable pub is_internal : Node → Bool
is_internal n = eqb (rank (class n)) (rank Internal)

-- a kind past the last, too many children, an external or block with a child, or a child field at or past the count that is not 0
unfoldable pub bad : Node → Bool
bad n = ltb last_kind n.kind || ltb fields n.count || (not (is_internal n) && ltb 0 n.count) || not (all (eqb 0) (drop n.count n.kids))

-- the children: the child fields below the count
unfoldable pub children : Node → List ℕ
children n = take n.count n.kids

-- the same node with its children renumbered
unfoldable pub renumber : (ℕ → ℕ) → Node → Node
renumber f n = record { kind = n.kind; count = n.count; kids = map f (children n) ++ drop n.count n.kids; digest = n.digest }

-- kind, digest and children are the same
unfoldable pub same_node : Node → Node → Bool
same_node m n = eqb m.kind n.kind && (same m.digest n.digest && same (children m) (children n))
