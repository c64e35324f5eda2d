-- Document 01, 'Examples', K1 to K12: one table, one statement, proved by computing it. It stands beside the definitions, so that a
-- definition that breaks an example is refused in its own crate.
-- Assumes nothing.
use Prim.Native.Nat.{ℕ, ◌+◌, ◌*◌, ◌/◌, ◌%◌}
use mathlib.Core.Path.{◌≡◌, refl}
use mathlib.Core.List.{List, [], ◌∷◌, ◌++◌, map}
use lib.ListN.{length, replicate}
use Rattle.record.specs.declared.Node.{Node}
use Rattle.record.specs.Lists.{same, run, all, over, flat}
use Rattle.record.specs.Number.{le, number, numbers, bytes}
use Rattle.record.specs.Order.{deciding, decided, lex, compared, is_less, before}
use Rattle.record.specs.Node.{size, record_at, node_at, nodes_of, node_bytes, row_at, rows_of, class_of, rank, class, is_external, is_block, is_internal, bad, children, renumber, same_node}
use Rattle.forest.specs.declared.Told.{Told}
use Rattle.forest.specs.Lists.{has, firsts, sum, here_or, there_or, first_some, keep, lowest, highest, later, last_of, insert, sort}
use Rattle.forest.specs.Reply.{row, told}
use Rattle.forest.specs.Lent.{Input, Room, Outcome, work_words, no_id, leaves_work, worked, refuse, accept, when, naming, first, answered}
use Rattle.forest.specs.Graph.{forests, joined, joined_roots, far_root, far_kid, far_child, no_node, at, replacement, replaced_by, listed, next}
use Rattle.forest.specs.Walk.{start, id_in, or_none, id_of, marked, mark, ended, push, finish, onward, each, enter, visit, walk}
use Rattle.forest.specs.Order.{ids, lower, externals, blocks, ready, released, begun, order, unreleased, repeat, place_in, arranged}
use Rattle.forest.specs.Validate.{bad_record}
use Rattle.forest.specs.Canonicalize.{alone, root_range, child_range, canonicalize_checks, disorders, canonicalize_refusals, canonical, canonicalize}
use Rattle.forest.specs.Merge.{node_sum, root_sum, forests_of, graph, roots_of, merge_checks, stopped, state_of, short, merge_refusals, carried, merged, merge}

-- a node with as many child fields as a record has
unfoldable pub node_of : ℕ → ℕ → List ℕ → Node
node_of kind d cs = record { kind = kind; count = length cs; kids = over (0 ∷ 0 ∷ []) 0 cs; digest = d ∷ 0 ∷ 0 ∷ 0 ∷ [] }

-- E7 external, B7 block, I7(0,1) internal of kind 2: 7 is the first digest word, the others are 0
unfoldable pub E : ℕ → Node
E d = node_of 0 d []

unfoldable pub B : ℕ → Node
B d = node_of 1 d []

unfoldable pub I : ℕ → List ℕ → Node
I d cs = node_of 2 d cs

-- a forest as an example writes it
pub record Given : Type 0 where
  pub nodes : List Node
  pub roots : List ℕ

unfoldable pub given : List Node → List ℕ → Given
given ns rs = record { nodes = ns; roots = rs }

-- the bytes and roots that are lent for it
unfoldable pub input : List Given → Input
input fs = record {
  table = flat (λ f. bytes 4 (length f.nodes) ++ bytes 4 (length f.roots)) fs;
  nodes = flat (λ f. flat node_bytes f.nodes) fs;
  roots = flat (λ f. f.roots) fs;
}

-- a room with k more of each output, part of a record among it, and work words to spare; each place holds another number
unfoldable pub held : ℕ → Input → Room
held k i = record {
  nodes = map (λ x. x % 256) (run 60 (length i.nodes + 53 * k));
  roots = run 1000 (length i.roots + k);
  ids = run 2000 (length i.nodes / size);
  work = run 3000 (work_words * (length i.nodes / size) + 3);
}

-- what the document says of a call
pub data Says : Type 0 where
  gives : List Node → List ℕ → List ℕ → Says
  refuses : ℕ → ℕ → ℕ → Says

-- a reply's numbers, and the room afterwards
unfoldable pub shown : Outcome → Told × Room
shown o = (told o.reply, o.room)

-- so the room must then be: a refusal changes no output, acceptance nothing past the result, and the work room is all zero
unfoldable pub due : Room → Says → Told × Room
due m (gives ns rs is) = (row 0 (length ns) (length rs), record { nodes = over m.nodes 0 (flat node_bytes ns); roots = over m.roots 0 rs; ids = is; work = replicate (length m.work) 0 })
due m (refuses k a b) = (row k a b, record { nodes = m.nodes; roots = m.roots; ids = m.ids; work = replicate (length m.work) 0 })

-- the room as it was lent, what the call answers, and what the document says
pub record Example : Type 0 where
  pub room : Room
  pub outcome : Outcome
  pub says : Says

unfoldable pub merges : ℕ → List Given → Says → Example
merges limit fs s = record { room = held 1 (input fs); outcome = merge limit (input fs) (held 1 (input fs)); says = s }

unfoldable pub canonicalizes : List Node → List ℕ → Says → Example
canonicalizes ns rs s =
    let i : Input = input (given ns rs ∷ []) in
    record { room = held 0 i; outcome = canonicalize i (held 0 i); says = s }

-- K1 to K12; K6 has two lines, K7 three
unfoldable pub table : List Example
table =
    merges 256 [] (gives [] [] [])
    ∷ merges 256 (given (B 1 ∷ B 2 ∷ I 3 (1 ∷ 0 ∷ []) ∷ []) (2 ∷ []) ∷ []) (gives (B 2 ∷ B 1 ∷ I 3 (0 ∷ 1 ∷ []) ∷ []) (2 ∷ []) (1 ∷ 0 ∷ 2 ∷ []))
    ∷ merges 256 (given (E 7 ∷ I 3 (0 ∷ []) ∷ []) (1 ∷ []) ∷ given (B 7 ∷ []) [] ∷ []) (gives (B 7 ∷ I 3 (0 ∷ []) ∷ []) (1 ∷ []) (0 ∷ 1 ∷ 0 ∷ []))
    ∷ merges 256 (given (E 7 ∷ E 5 ∷ I 3 (0 ∷ 1 ∷ []) ∷ E 7 ∷ []) (2 ∷ 3 ∷ []) ∷ []) (gives (E 5 ∷ E 7 ∷ I 3 (1 ∷ 0 ∷ []) ∷ []) (2 ∷ 1 ∷ []) (1 ∷ 0 ∷ 2 ∷ 1 ∷ []))
    ∷ merges 256 (given (B 7 ∷ I 7 [] ∷ E 7 ∷ []) (2 ∷ []) ∷ []) (gives (I 7 [] ∷ []) (0 ∷ []) (no_id ∷ 0 ∷ 0 ∷ []))
    ∷ merges 2 (given (E 7 ∷ I 7 (0 ∷ []) ∷ []) (1 ∷ []) ∷ []) (refuses 7 1 0)
    ∷ merges 1 (given (E 7 ∷ I 7 (0 ∷ []) ∷ []) (1 ∷ []) ∷ []) (refuses 8 0 0)
    ∷ merges 3 (given (B 1 ∷ I 2 (0 ∷ []) ∷ I 3 (1 ∷ []) ∷ []) (2 ∷ []) ∷ []) (gives (B 1 ∷ I 2 (0 ∷ []) ∷ I 3 (1 ∷ []) ∷ []) (2 ∷ []) (0 ∷ 1 ∷ 2 ∷ []))
    ∷ merges 2 (given (B 1 ∷ I 2 (0 ∷ []) ∷ I 3 (1 ∷ []) ∷ []) (2 ∷ []) ∷ []) (refuses 8 0 0)
    ∷ merges 1 (given (B 1 ∷ I 2 (0 ∷ []) ∷ I 3 (1 ∷ []) ∷ []) (2 ∷ []) ∷ []) (refuses 8 1 0)
    ∷ canonicalizes (I 3 (1 ∷ 1 ∷ []) ∷ I 4 [] ∷ []) (0 ∷ []) (gives (I 4 [] ∷ I 3 (0 ∷ 0 ∷ []) ∷ []) (1 ∷ []) (1 ∷ 0 ∷ []))
    ∷ canonicalizes (E 7 ∷ E 7 ∷ I 3 (9 ∷ 0 ∷ []) ∷ []) [] (refuses 5 1 0)
    ∷ canonicalizes (I 3 (5 ∷ 9 ∷ []) ∷ []) [] (refuses 6 0 9)
    ∷ canonicalizes (I 3 (1 ∷ []) ∷ I 4 (2 ∷ []) ∷ I 5 (1 ∷ []) ∷ []) [] (refuses 7 0 0)
    ∷ canonicalizes (B 1 ∷ []) (4 ∷ []) (refuses 4 0 0)
    ∷ []

-- the call answers what the document says
abbrev pub Holds : Example → Type 0
Holds e = shown e.outcome ≡ due e.room e.says

-- the statement holds of each element
unfoldable pub Every : {A : Type 0} → (A → Type 0) → List A → Type 0
Every P [] = Unit {0}
Every P (x ∷ xs) = P x × Every P xs

-- the line below names every definition that must unfold to compute a call
pub examples : Every Holds table
unfolding Every table merges canonicalizes given E B I node_of input held shown due same run all over flat le number numbers bytes deciding decided lex compared is_less before record_at node_at nodes_of node_bytes row_at rows_of class_of rank class is_external is_block is_internal bad children renumber same_node has firsts sum here_or there_or first_some keep lowest highest later last_of insert sort leaves_work worked refuse accept when naming first answered forests joined joined_roots far_root far_kid far_child no_node at replacement replaced_by listed next start id_in or_none id_of marked mark ended push finish onward each enter visit walk ids lower externals blocks ready released begun order unreleased repeat place_in arranged bad_record alone root_range child_range canonicalize_checks disorders canonicalize_refusals canonical canonicalize node_sum root_sum forests_of graph roots_of merge_checks stopped state_of short merge_refusals carried merged merge
examples = (refl, (refl, (refl, (refl, (refl, (refl, (refl, (refl, (refl, (refl, (refl, (refl, (refl, (refl, (refl, tt)))))))))))))))
