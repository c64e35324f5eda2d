-- What each step on the way to the result asks of the sections of the work room, and what it leaves there.
-- Assumes nothing: these are definitions.
use Rattle.std.specs.Prelude.{ℕ, ◌+◌, ◌-◌, ◌<◌, ◌≤◌, ◌≡◌, true, false, eqb, ltb, length, take, get_or}
use mathlib.Core.List.{List, [], ◌++◌, map, Memᴰ}
use Rattle.record.specs.Node.{node_at, class, rank}
use Rattle.record.specs.declared.Class.{Class}
use Rattle.record.specs.declared.Class.TheVariants.{External, Block, Internal}
use Rattle.forest.specs.Lent.{most, no_id}
use Rattle.forest.specs.Lists.{firsts, keep, sort}
use Rattle.forest.specs.Merge.{root_sum}
use Rattle.sorting.specs.Digests.{less}
use Rattle.sorting.specs.Promises.{Listed}
use Rattle.merger.specs.Table.{starts}

-- the sources of merged nodes by id, room for as many in their order, and room to sort them
pub record Sourced (s l o e : List ℕ) : Type 0 where
  pub listed : Listed s l
  pub as_long : length o ≡ length l
  pub spare : length l ≤ length e

-- the positions of a list whose nodes have the class c
unfoldable pub classed : List ℕ → Class → List ℕ → List ℕ
classed s c l = keep (λ q. eqb (rank (class (node_at s q))) (rank c)) l

-- externals by digest, then blocks, then internals
unfoldable pub sorted : List ℕ → List ℕ → List ℕ
sorted s l = sort (less s) (classed s External l) ++ (classed s Block l ++ classed s Internal l)

-- the id that the state of position p tells
abbrev pub id_on : List ℕ → ℕ → ℕ
id_on w p = get_or w p 0 - 2

-- and that of the source at place j of the order o
abbrev pub id_at : List ℕ → List ℕ → ℕ → ℕ
id_at w o j = id_on w (get_or o j 0)

-- p is a position whose state tells an id below n
pub record Ends (w : List ℕ) (n p : ℕ) : Type 0 where
  pub below : p < length w
  pub ended : 1 < get_or w p 0
  pub id : id_on w p < n

-- finished positions with ids of their own, all below n, stand in the order
pub record Lined (w o : List ℕ) (n : ℕ) : Type 0 where
  pub few : n ≤ most
  pub some : length o ≤ n
  pub ends : (j : ℕ) → j < length o → Ends w n (get_or o j 0)
  pub apart : (i j : ℕ) → i < length o → j < length o → id_at w o i ≡ id_at w o j → i ≡ j

-- each finished position has an id with a place, which l says
pub record Movable (w l : List ℕ) : Type 0 where
  pub few : length l ≤ most
  pub ids : (p : ℕ) → p < length w → 1 < get_or w p 0 → id_on w p < length l
  pub places : (p : ℕ) → p < length w → 1 < get_or w p 0 → get_or l (id_on w p) 0 < length l

-- the state that tells this place, of one that tells the id; that of no finished position stays
unfoldable pub moved : List ℕ → ℕ → ℕ
moved l v = elim (ltb v 2) [ true ↦ v | false ↦ get_or l (v - 2) 0 + 2 ]

-- the roots are finished, no id is listed yet, and there is room for each
pub record Rooted (t rs w b o : List ℕ) : Type 0 where
  pub long : length rs ≡ root_sum t
  pub ends : (x : ℕ) → Memᴰ x (starts t rs) → Ends w (length b) x
  pub blank : (i : ℕ) → i < length b → get_or b i 0 ≡ 0
  pub room : length b ≤ length o

-- the new ids of the roots: first mention kept, repeats dropped
unfoldable pub mentioned : List ℕ → List ℕ → List ℕ
mentioned w ps = firsts [] (map (id_on w) ps)

-- they are listed, r of them
pub record Mentions (t rs w b o : List ℕ) (r : ℕ) : Type 0 where
  pub count : r ≡ length (mentioned w (starts t rs))
  pub few : r ≤ length b
  pub put : take r o ≡ mentioned w (starts t rs)

-- what the id list says for a position's word
unfoldable pub shown_as : ℕ → ℕ
shown_as v = elim (ltb v 2) [ true ↦ no_id | false ↦ v - 2 ]
