-- The walk: the graph that records and bases give, and how the lists that it writes, and then the room, hold its state.
-- Assumes nothing: these are definitions.
use Rattle.std.specs.Prelude.{ℕ, ◌+◌, ◌-◌, ◌*◌, ◌/◌, ◌<◌, ◌≤◌, ◌≡◌, Bool, true, false, not, length, take, get_or, Option, Some, None, Result, Ok, Err}
use mathlib.Core.List.{List, [], ◌∷◌, Memᴰ}
use Rattle.record.specs.Lists.{run}
use Rattle.record.specs.Node.{fields, size, node_at, nodes_of, is_external, children, renumber}
use Rattle.record.specs.declared.Node.{Node}
use Rattle.forest.specs.Graph.{at, replacement, replaced_by, next}
use Rattle.forest.specs.Lent.{work_words, most}
use Rattle.forest.specs.Lists.{has, keep, last_of}
use Rattle.forest.specs.Merge.{root_sum}
use Rattle.forest.specs.Walk.{State, Walked, going, cycle, deep, id_in, id_of, finish, onward, each, visit}
use Rattle.forest.specs.declared.Reply.TheVariants.{Cycle, TooDeep}
use Rattle.claims.specs.Children.{Bare}
use Rattle.claims.specs.Sound.{Sound, Finished}
use Rattle.room.specs.Sections.{Puts}
use Rattle.sorting.specs.Promises.{Shelf}
use Rattle.sorting.specs.Digests.{holds}
use Rattle.dense_order.specs.Found.{Checked}
use Rattle.merger.specs.Sections.{sources_at, bases_at, spare_at}
use Rattle.merger.specs.Table.{starts}
use Rattle.merger.specs.declared.merging.Walk.{Walk}

-- records and bases give the graph g of as many nodes, whose steps stay in it
pub record Mapped (s b : List ℕ) (g : List Node) : Type 0 where
  pub counted : length b ≡ length s / size
  pub few : length b ≤ most
  pub long : length g ≡ length b
  pub nodes : (p : ℕ) → p < length b → at g p ≡ renumber (λ c. get_or b p 0 + c) (node_at s p)
  pub fit : (p : ℕ) → p < length b → (node_at s p).count ≤ fields
  pub inside : (p c : ℕ) → Memᴰ c (next g p) → c < length b
  pub bare : Bare g

-- the non-externals f stand by digest, so that the last of a digest is the replacement
pub record Held (s f : List ℕ) : Type 0 where
  pub shelf : Shelf s f
  pub last : (d : List ℕ) → last_of (holds s d) f ≡ replacement (nodes_of s) d

-- a graph whose replacements can be looked up: they are those of the records
pub record Charted (s b f : List ℕ) (g : List Node) : Type 0 where
  pub mapped : Mapped s b g
  pub held : Held s f
  pub same : (d : List ℕ) → replacement (nodes_of s) d ≡ replacement g d

-- room for n nodes
pub record Roomy (s w : List ℕ) (n : ℕ) : Type 0 where
  pub counted : n ≡ length s / size
  pub few : n ≤ most
  pub room : work_words * n ≤ length w

-- the positions of non-externals
unfoldable pub others : List ℕ → List ℕ
others s = keep (λ p. not (is_external (node_at s p))) (run 0 (length s / size))

-- the list l has a place for each of them
pub record Ample (s l : List ℕ) : Type 0 where
  pub counted : length l ≡ length s / size
  pub few : length l ≤ most

-- they are listed in its front, r of them, and nothing else has changed
pub record Lists (s l l' : List ℕ) (r : ℕ) : Type 0 where
  pub count : r ≡ length (others s)
  pub few : r ≤ length l
  pub puts : Puts (others s) l l' 0 r

-- they stand there by digest; if all was 0 in the spare list, it is
pub record Shelved (s l l' z z' : List ℕ) (r : ℕ) : Type 0 where
  pub held : Held s (take r l')
  pub few : r ≤ length l
  pub zeros : ((y : ℕ) → get_or z y 0 ≡ 0) → (y : ℕ) → get_or z' y 0 ≡ 0

-- the word of a position: 2 more than its new id, 1 if it is open, 0 if it is unseen
unfoldable pub word : Option ℕ → Bool → ℕ
word (Some i) b = i + 2
word None true = 1
word None false = 0

-- the node at position p with the ids that the states v have for its children
unfoldable pub merged_at : List ℕ → List ℕ → List ℕ → ℕ → Node
merged_at s b v p = renumber (λ c. get_or v (get_or b p 0 + c) 0 - 2) (node_at s p)

-- p is a position whose children are finished
pub record Readable (s b v : List ℕ) (p : ℕ) : Type 0 where
  pub below : p < length b
  pub within : p < length s / size
  pub few : length b ≤ most
  pub fit : (node_at s p).count ≤ fields
  pub ended : (c : ℕ) → Memᴰ c (children (node_at s p)) → (get_or b p 0 + c < length v) × (1 < get_or v (get_or b p 0 + c) 0)

-- so is each of the positions o
abbrev pub EachReadable : List ℕ → List ℕ → List ℕ → List ℕ → Type 0
EachReadable s b v o = (j : ℕ) → j < length o → Readable s b v (get_or o j 0)

-- the merged id k comes from position q
pub record Source (g : List Node) (t : State) (q k : ℕ) : Type 0 where
  pub own : id_in t.done q ≡ Some k
  pub node : at t.merged k ≡ renumber (id_of t) (at g q)

-- with the nodes of `path` open, the walk has come to t
pub record Fine (g : List Node) (n : ℕ) (path : List ℕ) (t : State) : Type 0 where
  pub sound : Sound g t
  pub unfinished : (x : ℕ) → Memᴰ x path → ¬ Finished t x
  pub within : (x : ℕ) → Finished t x → x < n
  pub closed : (p c : ℕ) → Finished t p → Memᴰ c (next g p) → Finished t c

-- the states v and the sources u, n of each, hold the state t, with the nodes of `path` open
pub record Holds (g : List Node) (v u : List ℕ) (n : ℕ) (path : List ℕ) (t : State) : Type 0 where
  pub long : length v ≡ n
  pub wide : length u ≡ n
  pub states : (p : ℕ) → p < n → get_or v p 0 ≡ word (id_in t.done p) (has p path)
  pub sources : (k : ℕ) → k < length t.merged → Source g t (get_or u k 0) k

-- all of this together
pub record Stands (s b f v u : List ℕ) (m : ℕ) (g : List Node) (path : List ℕ) (t : State) : Type 0 where
  pub charted : Charted s b f g
  pub fine : Fine g (length b) path t
  pub holds : Holds g v u (length b) path t
  pub counted : m ≡ length t.merged

-- so does a walk
abbrev pub StandsAt : Walk → ℕ → List Node → List ℕ → State → Type 0
StandsAt x m g path t = Stands x.nodes.now x.bases.now x.shelf.now x.states.now x.sources.now m g path t

-- it stands for some graph, open nodes and state
pub record Somewhere (x : Walk) (m : ℕ) : Type 0 where
  pub graph : List Node
  pub path : List ℕ
  pub state : State
  pub stands : StandsAt x m graph path state

-- p is open there, the last of all
pub record Inside (x : Walk) (m p : ℕ) : Type 0 where
  pub graph : List Node
  pub path : List ℕ
  pub state : State
  pub new : ¬ Memᴰ p path
  pub stands : StandsAt x m graph (p ∷ path) state

-- p is open, the last of all, it is not replaced, and its children are finished
pub record Pushing (s b v u : List ℕ) (m p : ℕ) (g : List Node) (path : List ℕ) (t : State) : Type 0 where
  pub mapped : Mapped s b g
  pub fine : Fine g (length b) (p ∷ path) t
  pub holds : Holds g v u (length b) (p ∷ path) t
  pub counted : m ≡ length t.merged
  pub below : p < length b
  pub new : ¬ Memᴰ p path
  pub kept : replaced_by g p ≡ None
  pub ended : (c : ℕ) → Memᴰ c (next g p) → Finished t c

abbrev pub PushingAt : Walk → ℕ → ℕ → List Node → List ℕ → State → Type 0
PushingAt x m p g path t = Pushing x.nodes.now x.bases.now x.states.now x.sources.now m p g path t

pub record Pushable (x : Walk) (m p : ℕ) : Type 0 where
  pub graph : List Node
  pub path : List ℕ
  pub state : State
  pub pushing : PushingAt x m p graph path state

-- the walk y goes over what x goes over, and writes to the same lists
pub record Kept (x y : Walk) : Type 0 where
  pub nodes : y.nodes.now ≡ x.nodes.now
  pub bases : y.bases.now ≡ x.bases.now
  pub shelf : y.shelf.now ≡ x.shelf.now
  pub states : y.states.ghost_name ≡ x.states.ghost_name
  pub sources : y.sources.ghost_name ≡ x.sources.ghost_name

-- take what hangs below p, then finish it
unfoldable pub under : List Node → ℕ → List ℕ → ℕ → State → Walked
under g d path p t = onward (each (visit g d (p ∷ path)) (next g p) t) (λ u. going (finish g p u))

-- what a walk says
unfoldable pub went_of : Walked → Checked ℕ
went_of (going t) = Ok (length t.merged)
went_of (cycle p) = Err (Cycle p)
went_of (deep p) = Err (TooDeep p)

-- how far it comes: how many nodes are merged, or the position at which it stops
unfoldable pub come_of : Walked → Result ℕ ℕ
come_of (going t) = Ok (length t.merged)
come_of (cycle p) = Err p
come_of (deep p) = Err p

-- the state of that position, one of n, tells why: the node is open, or it is unseen
unfoldable pub told_by : List ℕ → ℕ → Walked → Type 0
told_by v n (going t) = Unit
told_by v n (cycle p) = (p < n) × (p < length v) × (get_or v p 0 ≡ 1)
told_by v n (deep p) = (p < n) × (p < length v) × (get_or v p 0 ≡ 0)

-- the walk x has come to y, which holds u
abbrev pub Came : List Node → Walk → Walk → List ℕ → State → Type 0
Came g x y path u = Holds g y.states.now y.sources.now (length x.bases.now) path u

-- the walk goes to o, and the states v and the sources u with it
pub record Walks (g : List Node) (v u : List ℕ) (n : ℕ) (path : List ℕ) (o : Walked) (r : Checked ℕ) : Type 0 where
  pub answer : r ≡ went_of o
  pub came : (t : State) → o ≡ going t → Holds g v u n path t

abbrev pub WalksTo : List Node → Walk → Walk → List ℕ → Walked → Checked ℕ → Type 0
WalksTo g x y path o r = Walks g y.states.now y.sources.now (length x.bases.now) path o r

-- so, with the position in place of the refusal
pub record Comes (g : List Node) (v u : List ℕ) (n : ℕ) (path : List ℕ) (o : Walked) (r : Result ℕ ℕ) : Type 0 where
  pub answer : r ≡ come_of o
  pub told : told_by v n o
  pub came : (t : State) → o ≡ going t → Holds g v u n path t

abbrev pub ComesTo : List Node → Walk → Walk → List ℕ → Walked → Result ℕ ℕ → Type 0
ComesTo g x y path o r = Comes g y.states.now y.sources.now (length x.bases.now) path o r

-- nothing is taken yet, and the roots of all forests are positions
pub record Begun (t s rs b f v u : List ℕ) : Type 0 where
  pub graph : List Node
  pub charted : Charted s b f graph
  pub tall : length v ≡ length b
  pub wide : length u ≡ length b
  pub blank : (p : ℕ) → get_or v p 0 ≡ 0
  pub long : length rs ≡ root_sum t
  pub near : (x : ℕ) → Memᴰ x (starts t rs) → x < length b

-- so the room has the graph and the state, each list in its section
pub record MappedIn (s w : List ℕ) (n : ℕ) (g : List Node) : Type 0 where
  pub counted : n ≡ length s / size
  pub few : n ≤ most
  pub room : work_words * n ≤ length w
  pub long : length g ≡ n
  pub nodes : (p : ℕ) → p < n → at g p ≡ renumber (λ c. get_or w (bases_at n + p) 0 + c) (node_at s p)
  pub fit : (p : ℕ) → p < n → (node_at s p).count ≤ fields
  pub inside : (p c : ℕ) → Memᴰ c (next g p) → c < n
  pub bare : Bare g

pub record HoldsIn (g : List Node) (w : List ℕ) (n : ℕ) (path : List ℕ) (t : State) : Type 0 where
  pub states : (p : ℕ) → p < n → get_or w p 0 ≡ word (id_in t.done p) (has p path)
  pub sources : (k : ℕ) → k < length t.merged → Source g t (get_or w (sources_at n + k) 0) k

-- the walk has ended: m nodes are merged, and all from the spare section on is 0
pub record Ended (s w : List ℕ) (n m : ℕ) (g : List Node) (t : State) : Type 0 where
  pub mapped : MappedIn s w n g
  pub fine : Fine g n [] t
  pub holds : HoldsIn g w n [] t
  pub counted : m ≡ length t.merged
  pub zeros : (y : ℕ) → spare_at n ≤ y → get_or w y 0 ≡ 0
