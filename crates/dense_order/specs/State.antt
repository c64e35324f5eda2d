-- What the sections of Canonicalize's work room hold while internals are released: the ids in the order, hs the heads, ls the links, cs the
-- counts, rs the rows of the ready ids.
-- Assumes nothing: these are definitions.
use Rattle.std.specs.Prelude.{ℕ, ◌+◌, ◌*◌, ◌/◌, ◌<◌, ◌≤◌, ◌≡◌, true, false, not, ◌&&◌, ◌||◌, ◌≢◌, eqb, length, take, get_or}
use mathlib.Core.List.{List, [], ◌∷◌, ◌++◌, Memᴰ}
use Rattle.record.specs.Node.{fields, size, node_at, nodes_of, is_internal, children}
use Rattle.record.specs.declared.Node.{Node}
use Rattle.forest.specs.Graph.{at}
use Rattle.forest.specs.Lent.{work_words, most}
use Rattle.forest.specs.Lists.{has}
use Rattle.forest.specs.Order.{begun, order}
use Rattle.claims.specs.Children.{Bare}
use Rattle.claims.specs.Distinct.{Distinct}
use Rattle.claims.specs.Paths.{HasChild}
use Rattle.room.specs.Sections.{span}
use Rattle.ready.specs.Tree.{member, Tree}
use Rattle.dense_order.specs.Mentions.{prior, names, left}

-- where the heads begin in the room, and the links: behind the order and the marks, and behind the counts and two words of rows an id
abbrev pub heads_at : ℕ → ℕ
heads_at n = 2 * n

abbrev pub links_at : ℕ → ℕ
links_at n = 6 * n

-- a forest that can be walked: its records are not bad and its children in range
pub record Fair (s : List ℕ) (n : ℕ) : Type 0 where
  pub counted : n ≡ length s / size
  pub few : n ≤ most
  pub bare : Bare (nodes_of s)
  pub inside : (p c : ℕ) → HasChild (nodes_of s) p c → c < n
  pub narrow : (p : ℕ) → length (children (at (nodes_of s) p)) ≤ fields
  pub fit : (p : ℕ) → p < n → (node_at s p).count ≤ fields

-- the mentions below k are linked: from a child to the latest of them, and from each to the one before it
pub record Linked (g : List Node) (hs ls : List ℕ) (n k : ℕ) : Type 0 where
  pub heads : (c : ℕ) → c < n → get_or hs c 0 ≡ prior g c k
  pub links : (c e : ℕ) → e < k → names g c e ≡ true → get_or ls e 0 ≡ prior g c e

-- the mentions of the ids below p are linked, and there is room for those of all n
pub record Chained (s hs ls : List ℕ) (n p : ℕ) : Type 0 where
  pub fair : Fair s n
  pub heads_long : length hs ≡ n
  pub links_long : fields * n ≤ length ls
  pub linked : Linked (nodes_of s) hs ls n (fields * p)

-- f says how much each id still waits for; those of internals not in o that wait for nothing are ready
pub record Counts (g : List Node) (cs rs : List ℕ) (n : ℕ) (o : List ℕ) (f : ℕ → ℕ) : Type 0 where
  pub long : length cs ≡ n
  pub counts : (p : ℕ) → p < n → get_or cs p 0 ≡ f p
  pub tree : Tree rs n
  pub members : (p : ℕ) → p < n → member rs n p ≡ (is_internal (at g p) && (not (has p o) && eqb (f p) 0))

-- the ids of o are in the order, and those of d are settled
pub record Stands (s hs ls cs rs : List ℕ) (n : ℕ) (o d : List ℕ) : Type 0 where
  pub chained : Chained s hs ls n n
  pub distinct : Distinct o
  pub below : (x : ℕ) → Memᴰ x o → x < n
  pub closed : (p : ℕ) → Memᴰ p o → is_internal (at (nodes_of s) p) ≡ true → left (nodes_of s) p d ≡ 0
  pub counts : Counts (nodes_of s) cs rs n o (λ p. left (nodes_of s) p d)

-- o is the order so far, of which the first t ids are settled
pub record Standing (s o hs ls cs rs : List ℕ) (n t : ℕ) : Type 0 where
  pub upto : t ≤ length o
  pub some : length o ≤ n
  pub stands : Stands s hs ls cs rs n o (take t o)

-- p waits for one less, and is ready if that was the last
pub record Resolved (cs cs' rs rs' : List ℕ) (n p : ℕ) : Type 0 where
  pub count : get_or cs' p 0 + 1 ≡ get_or cs p 0
  pub counts : (j : ℕ) → j < n → j ≢ p → get_or cs' j 0 ≡ get_or cs j 0
  pub tree : Tree rs' n
  pub own : member rs' n p ≡ (member rs n p || eqb (get_or cs' p 0) 0)
  pub others : (j : ℕ) → j < n → j ≢ p → member rs' n j ≡ member rs n j

-- p is the next in the order, whose first `filled` ids stood in w and stand in w', and settled
pub record Appends (s w w' hs ls cs rs : List ℕ) (n filled p : ℕ) : Type 0 where
  pub standing : Standing s (take (filled + 1) w') hs ls cs rs n (filled + 1)
  pub order : take (filled + 1) w' ≡ take filled w ++ p ∷ []

-- externals and blocks, the first `filled` words of w, are in the order, and settled
pub record Begun (s w hs ls cs rs : List ℕ) (n filled : ℕ) : Type 0 where
  pub standing : Standing s (take filled w) hs ls cs rs n filled
  pub first : take filled w ≡ begun (nodes_of s)

-- the order is complete: the first `filled` words of w
pub record Released (s w hs ls cs rs : List ℕ) (n filled : ℕ) : Type 0 where
  pub standing : Standing s (take filled w) hs ls cs rs n filled
  pub whole : take filled w ≡ order (nodes_of s)

-- the mentions of the ids below p are linked and counted, and those of them that wait for nothing are ready
pub record Enlisted (s hs ls cs rs : List ℕ) (n p : ℕ) : Type 0 where
  pub chained : Chained s hs ls n p
  pub long : length cs ≡ n
  pub waiting : (j : ℕ) → j < p → get_or cs j 0 ≡ length (children (at (nodes_of s) j))
  pub tree : Tree rs n
  pub members : (j : ℕ) → j < p → member rs n j ≡ (is_internal (at (nodes_of s) j) && eqb (length (children (at (nodes_of s) j))) 0)
  pub idle : (j : ℕ) → p ≤ j → j < n → member rs n j ≡ false

-- p's r mentions are linked too
pub record Links (s hs ls : List ℕ) (n p r : ℕ) : Type 0 where
  pub count : r ≡ (node_at s p).count
  pub chained : Chained s hs ls n (p + 1)

-- externals and blocks are in the order, and all else from the places on is 0
pub record Fresh (s w : List ℕ) (n filled : ℕ) : Type 0 where
  pub fair : Fair s n
  pub room : work_words * n ≤ length w
  pub some : filled ≤ n
  pub first : span w 0 filled ≡ begun (nodes_of s)
  pub zeros : (y : ℕ) → n ≤ y → y < links_at n + fields * n → get_or w y 0 ≡ 0
