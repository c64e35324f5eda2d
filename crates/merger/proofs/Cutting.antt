-- Laws of the work room that is cut into its sections: what stands where in the whole.
-- Assumes nothing.
use Prim.Native.Nat.{ℕ, ◌+◌, ◌-◌, ◌*◌, ◌<◌}
use mathlib.Core.Path.{◌≡◌, refl, sym, ◌∙◌, ap}
use mathlib.Core.List.{List, ◌++◌}
use native.Mathlib.Omega.{arith}
use lib.ListN.{length, take, drop, get_or, length-append}
use Rattle.std.proofs.lemmas.List.{get_or_append_left}
use lib.Seq.{get_or-drop, drop-drop, drop-append_seam}
use Rattle.room.specs.Sections.{span}
use Rattle.merger.specs.Sections.{spare_at, order_at, places_at, listed_at, starts_at}

-- the states, what the walk keeps, the sort's spare section, the order, the places, the marks of listed ids, the new roots and what is behind
pub record Cut (w a k e o p b r : List ℕ) (n : ℕ) : Type 0 where
  pub whole : w ≡ a ++ (k ++ (e ++ (o ++ (p ++ (b ++ r)))))
  pub states : length a ≡ n
  pub walk : length k ≡ 3 * n
  pub spare : length e ≡ n
  pub order : length o ≡ n
  pub places : length p ≡ n
  pub listed : length b ≡ n

-- a list that stands from a place on, and what is behind it
module _ (w : List ℕ) (at : ℕ) (a b : List ℕ) (e : drop at w ≡ a ++ b) where
  here : (i : ℕ) → i < length a → get_or w (at + i) 0 ≡ get_or a i 0
  here i h = sym (get_or-drop at w i 0) ∙ (ap (λ (l : List ℕ). get_or l i 0) e ∙ get_or_append_left a b 0 i h)

  next : (to : ℕ) → to ≡ at + length a → drop to w ≡ b
  next to q = rw q (sym (drop-drop (length a) at w) ∙ (ap (drop (length a)) e ∙ drop-append_seam a b))

module _ {w a k e o p b r : List ℕ} {n : ℕ} (c : Cut w a k e o p b r n) where
  from_walk : drop n w ≡ k ++ (e ++ (o ++ (p ++ (b ++ r))))
  from_walk = next w 0 a _ c.whole n (let x = c.states in omega arith)

  from_order : drop (order_at n) w ≡ o ++ (p ++ (b ++ r))
  from_order = next w (spare_at n) e _ (next w n k _ from_walk (spare_at n) (let x = c.walk in omega arith)) (order_at n) (let x = c.spare in omega arith)

  from_listed : drop (listed_at n) w ≡ b ++ r
  from_listed = next w (places_at n) p _ (next w (order_at n) o _ from_order (places_at n) (let x = c.order in omega arith)) (listed_at n) (let x = c.places in omega arith)

  from_starts : drop (starts_at n) w ≡ r
  from_starts = next w (listed_at n) b r from_listed (starts_at n) (let x = c.listed in omega arith)

  pub cut_long : length w ≡ starts_at n + length r
  cut_long = rw c.whole (simp length-append (let x = c.states in let y = c.walk in let z = c.spare in let u = c.order in let v = c.places in let q = c.listed in omega arith))

  pub state_at : (i : ℕ) → i < n → get_or w i 0 ≡ get_or a i 0
  state_at i h = rw c.whole (get_or_append_left a _ 0 i (let x = c.states in omega arith))

  pub walk_at : (i : ℕ) → i < 3 * n → get_or w (n + i) 0 ≡ get_or k i 0
  walk_at i h = here w n k _ from_walk i (let x = c.walk in omega arith)

  pub place_at : (j : ℕ) → j < n → get_or w (order_at n + j) 0 ≡ get_or o j 0
  place_at j h = here w (order_at n) o _ from_order j (let x = c.order in omega arith)

  pub mark_at : (i : ℕ) → i < n → get_or w (listed_at n + i) 0 ≡ get_or b i 0
  mark_at i h = here w (listed_at n) b r from_listed i (let x = c.listed in omega arith)

  pub roots_at : (m : ℕ) → span w (starts_at n) (starts_at n + m) ≡ take m r
  unfolding span
  roots_at m = let z : starts_at n + m - starts_at n ≡ m = omega arith in rw (z, from_starts) refl
