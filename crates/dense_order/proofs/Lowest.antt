-- Laws of a loop that seeks the lowest bad record.
-- Assumes nothing.
use Prim.Native.Nat.{ℕ, zero, suc, ◌+◌, ◌/◌, ◌<◌, ◌≤◌}
use mathlib.Core.Path.{◌≡◌, refl, sym, ◌∙◌}
use mathlib.Core.Bool.{Bool, true, false, cond}
use mathlib.Core.List.{List, [], ◌∷◌, map}
use Rattle.std.specs.Prelude.{Option, Some, None}
use native.Mathlib.Omega.{arith}
use native.Mathlib.Numerals.{add-one}
use lib.ListN.{length}
use Rattle.record.specs.Lists.{run}
use Rattle.record.specs.declared.Node.{Node}
use Rattle.std.specs.List.{position, position_from, find, range_with_len}
use Rattle.std.proofs.lemmas.Iterator.Adapters.{position_from-zero}
use Rattle.record.specs.Node.{size, node_at, nodes_of, bad}
use Rattle.forest.specs.Lists.{here_or, lowest}
use Rattle.dense_order.proofs.Rest.{nodes_from, rest_all, rest_step, rest_end}

-- a place that was found counting from i
unfoldable pub further : ℕ → Option ℕ → Option ℕ
further i None = None
further i (Some j) = Some (i + j)

pub further_zero : (o : Option ℕ) → o ≡ further 0 o
unfolding further
further_zero None = refl
further_zero (Some j) = let e : 0 + j ≡ j = omega arith in rw e

pub further_here : (i : ℕ) (o : Option ℕ) → further i (here_or true o) ≡ Some i
unfolding further here_or
further_here i o = let e : i + 0 ≡ i = omega arith in rw e

pub further_there : (i : ℕ) (o : Option ℕ) → further i (here_or false o) ≡ further (i + 1) o
unfolding further here_or
further_there i None = refl
further_there i (Some j) = let e : i + suc j ≡ i + 1 + j = omega arith in rw e

-- the lowest bad record is none of those before i
abbrev pub Seeking : List ℕ → ℕ → Type 0
Seeking s i = lowest bad (nodes_of s) ≡ further i (lowest bad (nodes_from s i))

module _ (s : List ℕ) where
  pub seeking_start : Seeking s 0
  seeking_start = rw (rest_all s) (further_zero (lowest bad (nodes_from s 0)))

  module _ (i : ℕ) (k : Seeking s i) where
    pub seeking_found : i < length s / size → bad (node_at s i) ≡ true → Some i ≡ (lowest bad (nodes_of s))
    unfolding lowest
    seeking_found h e = rw (k, rest_step s i h, e, further_here i (lowest bad (nodes_from s (i + 1))))

    pub seeking_step : i < length s / size → bad (node_at s i) ≡ false → Seeking s (i + 1)
    unfolding lowest
    seeking_step h e = rw (k, rest_step s i h, e) (further_there i (lowest bad (nodes_from s (i + 1))))

    pub seeking_end : length s / size ≤ i → None ≡ (lowest bad (nodes_of s))
    unfolding lowest further
    seeking_end h = rw (k, rest_end s i h)

-- THE LIBRARY'S SEARCH ----------------------------------------------------------------------------

module _ {A : Type 0} (t : A → Bool) where
  further_position : (i : ℕ) (xs : List A) → position_from t i xs ≡ further i (lowest t xs)
  unfolding lowest further
  further_position i [] = refl
  further_position i (x ∷ xs) = go (t x) (further_position (i + 1) xs)
    where
      go : (b : Bool) → position_from t (i + 1) xs ≡ further (i + 1) (lowest t xs) → cond b (Some i) (position_from t (i + 1) xs) ≡ further i (here_or b (lowest t xs))
      go true e = sym (further_here i (lowest t xs))
      go false e = e ∙ sym (further_there i (lowest t xs))

  -- what `position` answers
  pub position_lowest : (xs : List A) → position t xs ≡ lowest t xs
  position_lowest xs = position_from-zero t xs ∙ further_position 0 xs ∙ sym (further_zero (lowest t xs))

-- what `find` answers in a run of numbers
find_run : (t : ℕ → Bool) (a n : ℕ) → find t (range_with_len a n) ≡ further a (lowest t (run a n))
unfolding lowest further run
find_run t a zero = refl
find_run t a (suc n) = go (t a) (find_run t (a + 1) n)
  where
    go : (b : Bool) → find t (range_with_len (a + 1) n) ≡ further (a + 1) (lowest t (run (a + 1) n)) → cond b (Some a) (find t (range_with_len (a + 1) n)) ≡ further a (here_or b (lowest t (run (suc a) n)))
    go true e = sym (further_here a (lowest t (run (suc a) n)))
    go false e = e ∙ sym (rw (← add-one a) (further_there a (lowest t (run (a + 1) n))))

-- a test of what is made of each element
pub lowest_map : {A B : Type 0} (t : B → Bool) (f : A → B) (xs : List A) → lowest (λ x. t (f x)) xs ≡ lowest t (map f xs)
unfolding lowest
lowest_map t f [] = refl
lowest_map t f (x ∷ xs) = rw (lowest_map t f xs)

-- what `find` answers among the numbers of the records
pub find_lowest : (t : Node → Bool) (s : List ℕ) → find (λ i. t (node_at s i)) (range_with_len 0 (length s / size)) ≡ lowest t (nodes_of s)
unfolding nodes_of
find_lowest t s =
    let n = length s / size in
    find_run (λ i. t (node_at s i)) 0 n ∙ sym (further_zero (lowest (λ i. t (node_at s i)) (run 0 n))) ∙ lowest_map t (node_at s) (run 0 n)
