-- Laws of a loop that writes f of the element at place i of one list to place i of another.
-- Assumes nothing.
use Prim.Native.Nat.{ℕ, suc, ◌+◌, ◌<◌, ◌≤◌}
use mathlib.Core.Path.{◌≡◌, refl, ◌∙◌, ap}
use mathlib.Core.List.{List, [], ◌∷◌, ◌++◌, map, map-append, append-nil}
use native.Mathlib.Omega.{arith}
use native.Mathlib.Numerals.{add-one}
use lib.ListN.{length, take, drop, get_or, set, length-append, length-drop, length-map, length-take, drop_of_length-le}
use lib.Seq.{take_all, take-suc, drop-cons, set_at, get_or_at, append_snoc, length-take-le}
use Rattle.record.specs.Lists.{run}
use Rattle.sorting.proofs.Uses.{run_at}

-- the first i places of out hold f of the first i of xs, the others what they held in out₀
pub record Filled (f : ℕ → ℕ) (xs out₀ out : List ℕ) (i : ℕ) : Type 0 where
  pub room : length out₀ ≡ length xs
  pub held : out ≡ map f (take i xs) ++ drop i out₀

pub filled_start : (f : ℕ → ℕ) (xs out : List ℕ) → length out ≡ length xs → Filled f xs out out 0
filled_start f xs out h = record { room = h; held = refl }

length_front : (f : ℕ → ℕ) (xs : List ℕ) (i : ℕ) → i ≤ length xs → length (map f (take i xs)) ≡ i
length_front f xs i h = length-map (take i xs) f ∙ length-take-le i xs h

module _ {f : ℕ → ℕ} {xs out₀ out : List ℕ} {i : ℕ} (r : Filled f xs out₀ out i) where
  pub filled_long : length out ≡ length out₀
  filled_long = rw r.held (simp (length-append, length-map, length-take, length-drop) (let a = r.room in omega arith))

  split : i < length xs → out ≡ map f (take i xs) ++ get_or out₀ i 0 ∷ drop (suc i) out₀
  split h = r.held ∙ ap (λ (l : List ℕ). map f (take i xs) ++ l) (drop-cons out₀ i 0 (let a = r.room in omega arith))

  -- place i is still as it was
  pub filled_here : i < length xs → get_or out i 0 ≡ get_or out₀ i 0
  filled_here h = rw (split h) (get_or_at (map f (take i xs)) (get_or out₀ i 0) (drop (suc i) out₀) 0 i (length_front f xs i (omega arith)))

  pub filled_step : {y : ℕ} → i < length xs → y ≡ f (get_or xs i 0) → Filled f xs out₀ (set out i y) (i + 1)
  filled_step {y} h e = record {
    room = r.room;
    held =
        rw (
          split h,
          set_at (map f (take i xs)) (get_or out₀ i 0) (drop (suc i) out₀) y i (length_front f xs i (omega arith)),
          add-one,
          take-suc xs i 0 h,
          map-append f (take i xs) (get_or xs i 0 ∷ []),
          append_snoc (map f (take i xs)) (f (get_or xs i 0)) (drop (suc i) out₀),
          e,
        );
  }

  pub filled_end : length xs ≤ i → out ≡ map f xs
  filled_end h = let a = r.room in let l : length out₀ ≤ i = omega arith in rw (r.held, take_all i xs h, drop_of_length-le out₀ l, append-nil)

-- THE NUMBERS FROM 0 ON ---------------------------------------------------------------------------

pub ids_at : (n i : ℕ) → i < n → get_or (run 0 n) i 0 ≡ i
ids_at n i h = let e = run_at 0 n i h in omega arith
