-- What is lent to a call, what it leaves, and how its refusals are ordered.
-- Assumes nothing: these are definitions.
use Rattle.std.specs.Prelude.{ℕ, Bool, true, false, List, [], ◌∷◌, length, replicate, Option, Some, None}
use Rattle.record.specs.Lists.{over, flat}
use Rattle.record.specs.Node.{node_bytes}
use Rattle.record.specs.declared.Node.{Node}
use Rattle.forest.specs.Lists.{has}
use Rattle.forest.specs.Reply.{told}
use Rattle.forest.specs.declared.Reply.{Reply}
use Rattle.forest.specs.declared.Reply.TheVariants.{Accepted}

-- buffers 1 to 3, lent to be read
pub record Input : Type 0 where
  pub table : List ℕ
  pub nodes : List ℕ
  pub roots : List ℕ

-- buffers 4 to 7, lent to be written
pub record Room : Type 0 where
  pub nodes : List ℕ
  pub roots : List ℕ
  pub ids : List ℕ
  pub work : List ℕ

-- the reply, and the room as it is afterwards
pub record Outcome : Type 0 where
  pub reply : Reply
  pub room : Room

-- what an accepted call gives: nodes, roots, and an id for each input position
pub record Result : Type 0 where
  pub nodes : List Node
  pub roots : List ℕ
  pub ids : List ℕ

-- the words of work room that a node wants
abbrev pub work_words : ℕ
work_words = 16

-- the most nodes and the most roots, the source's MAX_NODES
abbrev pub most : ℕ
most = 1073741823

-- the mark for none in an id list
abbrev pub no_id : ℕ
no_id = 4294967295

-- the work room is left as it is after BadLimit, TooMany and BadBuffers
unfoldable pub leaves_work : Reply → Bool
leaves_work r = has (told r).number (13 ∷ 2 ∷ 1 ∷ [])

-- the work room afterwards: unchanged, or all zero
unfoldable pub worked : Reply → List ℕ → List ℕ
worked r w = elim (leaves_work r) [ true ↦ w | false ↦ replicate (length w) 0 ]

-- a refusal changes no output
unfoldable pub refuse : Room → Reply → Outcome
refuse m r = record { reply = r; room = record { nodes = m.nodes; roots = m.roots; ids = m.ids; work = worked r m.work } }

-- acceptance writes nodes and roots over the beginning of their outputs, and the whole id list
unfoldable pub accept : Room → Result → Outcome
accept m r =
    let yes : Reply = Accepted (length r.nodes) (length r.roots) in
    record {
      reply = yes;
      room = record {
        nodes = over m.nodes 0 (flat node_bytes r.nodes);
        roots = over m.roots 0 r.roots;
        ids = r.ids;
        work = worked yes m.work;
      };
    }

-- a refusal if the test passes
unfoldable pub when : Bool → Reply → Option Reply
when true r = Some r
when false r = None

-- a refusal that names what was found
unfoldable pub naming : {A : Type 0} → (A → Reply) → Option A → Option Reply
naming f None = None
naming f (Some a) = Some (f a)

-- the first refusal of the list
unfoldable pub first : List (Option Reply) → Option Reply
first [] = None
first (None ∷ os) = first os
first (Some r ∷ os) = Some r

-- the first refusal decides; if there is none, the result is delivered
unfoldable pub answered : Room → List (Option Reply) → Result → Outcome
answered m os r = elim (first os) [ Some e ↦ refuse m e | None ↦ accept m r ]
