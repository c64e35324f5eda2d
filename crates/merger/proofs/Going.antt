-- Taking one position after the other: where the walk has come to after the first i of a list.
-- Assumes nothing.
use Rattle.std.specs.Prelude.{Result, Ok, Err}
use Prim.Native.Nat.{ℕ, suc, ◌+◌, ◌<◌, ◌≤◌}
use mathlib.Core.Path.{◌≡◌, refl, sym, ◌∙◌, ap}
use mathlib.Core.List.Memᴰ
use mathlib.Core.List.{List, [], ◌∷◌, Memᴰ}
use mathlib.Core.Logic.{◌⊎◌, inl, inr}
use native.Mathlib.Numerals.{add-one}
use lib.ListN.{length, take, drop, get_or, drop_of_length-le}
use lib.Seq.{drop-cons, take-suc, take_all}
use Rattle.record.specs.declared.Node.{Node}
use Rattle.record.proofs.Basics.{clash}
use Rattle.forest.specs.Walk.{State, Walked, going, cycle, deep, onward, each, visit}
use Rattle.claims.specs.Sound.{Finished}
use Rattle.merger.specs.Walking.{Stands, went_of, come_of, told_by, Comes}
use Rattle.merger.proofs.Fine.{visit_fine}

-- ANSWERS -----------------------------------------------------------------------------------------

-- a walk that says how many nodes are merged goes on
pub on_going : (o : Walked) (c : ℕ) → went_of o ≡ Ok c → (u : State) × (o ≡ going u) × (c ≡ length u.merged)
unfolding went_of
on_going (going u) c e = (u, refl, cc)
on_going (cycle p) c e = absurd (clash cc)
on_going (deep p) c e = absurd (clash cc)

pub on_come : (o : Walked) (c : ℕ) → come_of o ≡ Ok c → (u : State) × (o ≡ going u) × (c ≡ length u.merged)
unfolding come_of
on_come (going u) c e = (u, refl, cc)
on_come (cycle p) c e = absurd (clash cc)
on_come (deep p) c e = absurd (clash cc)

-- one that does not has stopped, whatever was to follow
pub off_stops : (o : Walked) (k : State → Walked) → ((c : ℕ) → come_of o ≡ Ok c → ⊥) → onward o k ≡ o
unfolding come_of onward
off_stops (going u) k f = absurd (f _ refl)
off_stops (cycle p) k f = refl
off_stops (deep p) k f = refl

-- a refusal is no answer that goes on
pub off_err : (r : Result ℕ ℕ) (e : ℕ) → r ≡ Err e → (c : ℕ) → r ≡ Ok c → ⊥
off_err r e f c g = clash (cc)

pub off_not : (o : Walked) (u : State) → ((c : ℕ) → come_of o ≡ Ok c → ⊥) → o ≡ going u → ⊥
unfolding come_of
off_not o u f e = f (length u.merged) (rw e refl)

-- THE FIRST i -------------------------------------------------------------------------------------

-- the first i of l are taken from t on, and the walk has come to a state that the states v and the sources u hold
pub record Gone (s b f v u : List ℕ) (d m i : ℕ) (g : List Node) (path l : List ℕ) (t : State) : Type 0 where
  pub state : State
  pub same : each (visit g d path) l t ≡ each (visit g d path) (drop i l) state
  pub stands : Stands s b f v u m g path state
  pub ended : (x : ℕ) → Memᴰ x (take i l) → Finished state x

unfoldable pub gone_start : {s b f v u : List ℕ} {m : ℕ} {g : List Node} {path : List ℕ} {t : State} (d : ℕ) (l : List ℕ) → Stands s b f v u m g path t → Gone s b f v u d m 0 g path l t
gone_start {t = t} d l q = record { state = t; same = refl; stands = q; ended = λ x k. absurd (Memᴰ.not-nil k) }

module _ {s b f v u : List ℕ} {d m i : ℕ} {g : List Node} {path l : List ℕ} {t : State} (a : Gone s b f v u d m i g path l t) where
  -- all are taken
  pub gone_done : length l ≤ i → each (visit g d path) l t ≡ going a.state
  unfolding each
  gone_done k = a.same ∙ rw (drop_of_length-le l {i = i} k) refl

  pub gone_all : length l ≤ i → (x : ℕ) → Memᴰ x l → Finished a.state x
  gone_all k x j = a.ended x (rw (take_all_of) j)
    where
      take_all_of : take i l ≡ l
      take_all_of = take_all i l k

  module _ (more : i < length l) (x : ℕ) (is : x ≡ get_or l i 0) where
    next_taken : each (visit g d path) l t ≡ onward (visit g d path x a.state) (λ j. each (visit g d path) (drop (suc i) l) j)
    unfolding each
    next_taken = a.same ∙ rw (drop-cons l i 0 more, is) refl

    module _ {v' u' : List ℕ} {r : Result ℕ ℕ} (low : x < length b) (k : Comes g v' u' (length b) path (visit g d path x a.state) r) where
      pub gone_step : (c : ℕ) → r ≡ Ok c → Gone s b f v' u' d c (i + 1) g path l t
      unfolding onward
      gone_step c e = from (on_come (visit g d path x a.state) c (sym k.answer ∙ e))
        where
          from : (j : State) × (visit g d path x a.state ≡ going j) × (c ≡ length j.merged) → Gone s b f v' u' d c (i + 1) g path l t
          from (j, z, y) =
              let w = visit_fine g (length b) a.stands.charted.mapped.inside d path x a.state j z low a.stands.fine in
              record {
                state = j;
                same = next_taken ∙ rw (z, add-one) refl;
                stands = record { charted = a.stands.charted; fine = w.fine; holds = k.came j z; counted = y };
                ended = λ o n. or o (w.kept o) w.done (Memᴰ.append_cases (take i l) (rw (add-one, take-suc l i 0 more) at n));
              }
            where
              or : (y : ℕ) → (Finished a.state y → Finished j y) → Finished j x → Memᴰ y (take i l) ⊎ Memᴰ y (get_or l i 0 ∷ []) → Finished j y
              or y keep new (inl n) = keep (a.ended y n)
              or y keep new (inr n) = rw (Memᴰ.eq_of_singleton n ∙ sym is) new

      pub gone_stops : ((c : ℕ) → r ≡ Ok c → ⊥) → (h : State → Walked) → (r ≡ come_of (onward (each (visit g d path) l t) h)) × told_by v' (length b) (onward (each (visit g d path) l t) h) × ((j : State) → onward (each (visit g d path) l t) h ≡ going j → ⊥)
      gone_stops off h =
          let o : Walked = visit g d path x a.state in
          let z : (c : ℕ) → come_of o ≡ Ok c → ⊥ = λ c e. off c (k.answer ∙ e) in
          let e : each (visit g d path) l t ≡ o = next_taken ∙ off_stops o _ z in
          let w : onward (each (visit g d path) l t) h ≡ o = ap (λ (j : Walked). onward j h) e ∙ off_stops o h z in
          (k.answer ∙ ap come_of (sym w), rw w k.told, λ j y. off_not o j z (sym w ∙ y))
