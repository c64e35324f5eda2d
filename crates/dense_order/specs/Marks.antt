-- Places in the work room: words 0 .. n - 1 hold the order of n ids, word n + p the mark of id p, 1 more than its place in the order or 0.
-- Assumes nothing: these are definitions.
use Rattle.std.specs.Prelude.{ℕ, suc, ◌+◌, ◌-◌, ◌*◌, ◌<◌, ◌≤◌, ◌≡◌, eqb, length, get_or, Some, None}
use mathlib.Core.List.{List, Memᴰ}
use Rattle.record.specs.Node.{fields, size, node_at, children}
use Rattle.forest.specs.Lists.{lowest}
use Rattle.forest.specs.Lent.{most}
use Rattle.claims.specs.Distinct.{Distinct}
use Rattle.room.specs.Sections.{span, Out}

-- 1 more than the place of p in the list, or 0
unfoldable pub mark_of : List ℕ → ℕ → ℕ
mark_of o p = elim (lowest (eqb p) o) [ None ↦ 0 | Some i ↦ suc i ]

-- the new id that the mark of c gives
unfoldable pub new_id : List ℕ → ℕ → ℕ
new_id m c = get_or m c 0 - 1

-- c is an id that has a place, by the marks m
abbrev pub Placed : List ℕ → ℕ → Type 0
Placed m c = (c < length m) × (0 < get_or m c 0)

-- the first `filled` words are different ids below n, and none of the n ids is marked
pub record Unmarked (w : List ℕ) (n filled : ℕ) : Type 0 where
  pub within : filled ≤ n
  pub fits : 2 * n ≤ length w
  pub small : n ≤ most
  pub apart : Distinct (span w 0 filled)
  pub below : (x : ℕ) → Memᴰ x (span w 0 filled) → x < n
  pub clear : (p : ℕ) → p < n → get_or w (n + p) 0 ≡ 0

-- w' is w with the marks that the first `filled` words give: nothing else has changed
pub record Marked (w w' : List ℕ) (n filled : ℕ) : Type 0 where
  pub marks : (p : ℕ) → p < n → get_or w' (n + p) 0 ≡ mark_of (span w 0 filled) p
  pub rest : (y : ℕ) → Out y n n → get_or w' y 0 ≡ get_or w y 0

-- the records of the ids o can be written: they are there, and each child of each has a place by the marks m
pub record Writable (s o m out : List ℕ) : Type 0 where
  pub room : length out ≡ size * length o
  pub inside : (x : ℕ) → Memᴰ x o → size * x + size ≤ length s
  pub few : (x : ℕ) → Memᴰ x o → (node_at s x).count ≤ fields
  pub placed : (x : ℕ) → Memᴰ x o → (c : ℕ) → Memᴰ c (children (node_at s x)) → Placed m c
