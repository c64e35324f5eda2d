-- Laws of a loop that seeks two neighbours of one digest in a list of ids.
-- Assumes nothing.
use Prim.Native.Nat.{ℕ, ◌-◌, ◌/◌, ◌<◌, ◌≤◌}
use mathlib.Core.Path.{◌≡◌, refl, ap, sym, ◌∙◌}
use mathlib.Core.Bool.{true, false}
use mathlib.Core.List.{List, [], ◌∷◌}
use Rattle.std.specs.Prelude.{Some, None}
use native.Mathlib.Omega.{arith}
use lib.ListN.{length, take, drop, get_or}
use Rattle.record.specs.Lists.{same}
use Rattle.record.specs.Node.{size, nodes_of}
use Rattle.record.specs.declared.Node.{Node}
use Rattle.forest.specs.Graph.{at}
use Rattle.forest.specs.Order.{repeat}
use Rattle.room.specs.Sections.{span}
use Rattle.sorting.specs.Digests.{digest, holds}
use Rattle.sorting.specs.Promises.{Listed}
use Rattle.sorting.specs.Sorted.{All, all_cons}
use Rattle.sorting.proofs.Uses.{at_node_lem}

-- the first two either have one digest, or what is sought is further on
module _ (g : List Node) (p q : ℕ) (o : List ℕ) where
  pub alike : same (at g p).digest (at g q).digest ≡ true → repeat g (p ∷ q ∷ o) ≡ Some q
  unfolding repeat
  alike e = rw (e, repeat)

  pub differing : same (at g p).digest (at g q).digest ≡ false → repeat g (p ∷ q ∷ o) ≡ repeat g (q ∷ o)
  unfolding repeat
  differing e = rw (e, repeat)

-- x is the first two of o
record Two (o x : List ℕ) : Type 0 where
  rest : List ℕ
  front : o ≡ get_or x 0 0 ∷ get_or x 1 0 ∷ rest
  next : drop 1 o ≡ get_or x 1 0 ∷ rest

two : (o x : List ℕ) (z : ℕ) → z ≡ 2 → z ≤ length o → x ≡ take z o → Two o x
two [] x z i h e = absurd (omega arith)
two (p ∷ []) x z i h e = absurd (omega arith)
two (p ∷ q ∷ l) x z i h e = let f : x ≡ p ∷ q ∷ [] = rw i at e in record { rest = l; front = rw f; next = rw f }

-- o is the end of the list, before which no two neighbours have one digest
pub record Unlike (s list o : List ℕ) : Type 0 where
  pub same : repeat (nodes_of s) list ≡ repeat (nodes_of s) o
  pub listed : Listed s o

pub unlike_start : (s w : List ℕ) (count : ℕ) → Listed s (span w 0 count) → Unlike s (span w 0 count) (take count w)
unfolding span
unlike_start s w count h = let z : count - 0 ≡ count = omega arith in record { same = rw z; listed = rw z at h }

module _ {s list o : List ℕ} (u : Unlike s list o) where
  module _ {z : ℕ} (i : z ≡ 2) (h : z ≤ length o) {x : List ℕ} (e : x ≡ take z o) where
    numbered : (get_or x 0 0 < length s / size) × Listed s (drop 1 o)
    unfolding Listed
    numbered = let t = two o x z i h e in rw t.next (heads (rw t.front at u.listed))
      where
        heads : {p q : ℕ} {l : List ℕ} → All (λ p. p < length s / size) (p ∷ q ∷ l) → (p < length s / size) × All (λ p. p < length s / size) (q ∷ l)
        heads (all_cons a b) = (a, b)

    pub first_numbered : get_or x 0 0 < length s / size
    first_numbered = numbered.0

    pub second_numbered : get_or x 1 0 < length s / size
    unfolding Listed
    second_numbered = let t = two o x z i h e in head (rw t.next at numbered.1)
      where
        head : {q : ℕ} {l : List ℕ} → All (λ p. p < length s / size) (q ∷ l) → q < length s / size
        head (all_cons a b) = a

    -- d is the digest of the first
    module _ (d : List ℕ) (read : d ≡ digest s (get_or x 0 0)) where
      compared : same (at (nodes_of s) (get_or x 0 0)).digest (at (nodes_of s) (get_or x 1 0)).digest ≡ holds s d (get_or x 1 0)
      unfolding holds
      compared = rw (at_node_lem s (get_or x 0 0) first_numbered, at_node_lem s (get_or x 1 0) second_numbered, read)

      pub unlike_found : holds s d (get_or x 1 0) ≡ true → Some (get_or x 1 0) ≡ (repeat (nodes_of s) list)
      unlike_found f = let t = two o x z i h e in rw (u.same, t.front, alike (nodes_of s) _ _ t.rest (compared ∙ f))

      pub unlike_step : holds s d (get_or x 1 0) ≡ false → Unlike s list (drop 1 o)
      unlike_step f = let t = two o x z i h e in record { same = u.same ∙ ap (repeat (nodes_of s)) t.front ∙ differing (nodes_of s) _ _ t.rest (compared ∙ f) ∙ ap (repeat (nodes_of s)) (sym t.next); listed = numbered.1 }

  pub unlike_end : length o < 2 → None ≡ (repeat (nodes_of s) list)
  unfolding repeat
  unlike_end h = rw u.same (none o h)
    where
      none : (l : List ℕ) → length l < 2 → None ≡ (repeat (nodes_of s) l)
      none [] q = refl
      none (p ∷ []) q = refl
      none (p ∷ q ∷ l) h = absurd (omega arith)
