-- From the walk's reasons to paths and cycles.
-- Assumes nothing.
use Rattle.std.specs.Prelude.{ℕ, ◌≡◌, refl, ◌⊎◌}
use mathlib.Core.List.Memᴰ
use mathlib.Core.List.{List, ◌∷◌, Memᴰ}
use Rattle.std.proofs.Common.{inl, inr, arith}
use Rattle.record.specs.Node.{children}
use Rattle.record.specs.declared.Node.{Node}
use Rattle.record.proofs.Basics.{clash}
use Rattle.forest.specs.Graph.{at, replaced_by, listed, next}
use Rattle.forest.specs.Walk.{State, Walked, deep}
use Rattle.claims.specs.Paths.{Step, child, replaced, Steps, one, more, Path, root, onto, LongPath}
use Rattle.claims.specs.Walks.{Closed, nothing, after, Why, fine, met, full}

pub step_next : (g : List Node) (p q : ℕ) → Step g p q → Memᴰ q (next g p)
unfolding next listed
step_next g p q (child m) = Memᴰ.append_left (listed (replaced_by g p)) m
step_next g p q (replaced e) = Memᴰ.append_right (children (at g p)) (rw e (Memᴰ.head refl))

module _ {R : ℕ → ℕ → Type 0} where
  -- what stands on the way leads to the end
  pub way_steps : {roots : List ℕ} {p q : ℕ} {l : List ℕ} → Path R roots (p ∷ l) → Memᴰ q l → Steps R q p
  way_steps (root m) n = absurd (Memᴰ.not-nil n)
  way_steps {roots} {p} {q} (onto {p = h} {l = t} w s) n = go (Memᴰ.cases_cons n) (λ k. way_steps w k)
    where
      go : (q ≡ h) ⊎ Memᴰ q t → (Memᴰ q t → Steps R q h) → Steps R q p
      go (inl e) ih = rw e (one s)
      go (inr k) ih = more (ih k) s

  -- a cycle can be begun one step later
  turn : {p r : ℕ} → Steps R p r → (q : ℕ) × R p q × ((q ≡ r) ⊎ Steps R q r)
  turn (one s) = (_, s, inl refl)
  turn {p} {r} (more {q = h} c s) = let (q, t, d) = turn c in (q, t, inr (go q d))
    where
      go : (q : ℕ) → (q ≡ h) ⊎ Steps R q h → Steps R q r
      go q (inl e) = rw e (one s)
      go q (inr d) = more d s

-- all ways from p end
pub data Ends (R : ℕ → ℕ → Type 0) : ℕ → Type 0 where
  ends : {p : ℕ} → ((q : ℕ) → R p q → Ends R q) → Ends R p

module _ {R : ℕ → ℕ → Type 0} where
  pub ends_acyclic : {p : ℕ} → Ends R p → Steps R p p → ⊥
  ends_acyclic {p} (ends k) c = let (q, s, d) = turn c in ends_acyclic (k q s) (go q s d)
    where
      go : (q : ℕ) → R p q → (q ≡ p) ⊎ Steps R q p → Steps R q q
      go q s (inl e) = rw e c
      go q s (inr d) = more d s

  ends_step : {p : ℕ} → Ends R p → (q : ℕ) → R p q → Ends R q
  ends_step (ends k) = k

  pub path_ends : {roots : List ℕ} {p : ℕ} {l : List ℕ} → ((r : ℕ) → Memᴰ r roots → Ends R r) → Path R roots (p ∷ l) → Ends R p
  path_ends h (root m) = h _ m
  path_ends h (onto w s) = ends_step (path_ends h w) _ s

pub closed_ends : {g : List Node} {l : List ℕ} → Closed g l → (p : ℕ) → Memᴰ p l → Ends (Step g) p
closed_ends nothing p m = absurd (Memᴰ.not-nil m)
closed_ends {g} (after {p = h} {l = t} k c) p m = go (Memᴰ.cases_cons m) (closed_ends c)
  where
    go : (p ≡ h) ⊎ Memᴰ p t → ((q : ℕ) → Memᴰ q t → Ends (Step g) q) → Ends (Step g) p
    go (inl e) ih = rw e (ends (λ q s. ih q (k q (step_next g h q s))))
    go (inr n) ih = ih p n

-- what each reason comes to
module _ {g : List Node} {roots : List ℕ} {limit : ℕ} {Q : State → Type 0} where
  pub deep_long : {w : Walked} {p : ℕ} → w ≡ deep p → Why g roots limit Q w → LongPath g roots limit
  deep_long e (full {p = q} {l = l} w u h) = record { way = q ∷ l; path = w; some_of = q ∷ l; distinct = u; held = λ p m. m; more = omega arith }
  deep_long e (fine q) = absurd (clash (cc))
  deep_long e (met a b) = absurd (clash (cc))
