-- What a visit keeps of the walk's state: it stays sound, within the graph and closed, and what is finished stays finished.
-- Assumes nothing.
use Prim.Native.Nat.{ℕ, ◌<◌, ◌≤◌}
use mathlib.Core.Path.{◌≡◌, refl}
use mathlib.Core.List.Memᴰ
use mathlib.Core.List.{List, [], ◌∷◌, Memᴰ}
use mathlib.Core.Logic.{◌⊎◌, inl, inr}
use Rattle.std.specs.Prelude.{Some, None}
use native.Mathlib.Omega.{arith}
use lib.ListN.{length, length-map}
use Rattle.record.specs.declared.Node.{Node}
use Rattle.forest.specs.Graph.{next}
use Rattle.forest.specs.Walk.{State, start, going, id_in, finish, visit}
use Rattle.claims.specs.Distinct.{fresh, pigeonhole}
use Rattle.claims.specs.Sound.{Finished, sound_start, visit_after}
use Rattle.claims.specs.WalkInduction.{visit_ind}
use Rattle.claims.specs.Walks.{positions, id_in_in, finish_positions}
use Rattle.merger.specs.Walking.{Fine}

-- merged nodes never outnumber the positions
pub fine_few : {g : List Node} {n : ℕ} {path : List ℕ} {t : State} → Fine g n path t → length t.merged ≤ n
fine_few {g} {n} {path} {t} f =
    let a = f.sound.few in
    let b : length (positions t.done) ≤ n = pigeonhole n f.sound.single f.within in
    let c : length (positions t.done) ≡ length t.done = length-map t.done _ in
    omega arith

-- while a position is open they are fewer
pub fine_fewer : {g : List Node} {n p : ℕ} {path : List ℕ} {t : State} → Fine g n (p ∷ path) t → p < n → length t.merged < n
fine_fewer {g} {n} {p} {path} {t} f h =
    let a = f.sound.few in
    let b : length (p ∷ positions t.done) ≤ n = pigeonhole n (fresh (f.unfinished p (Memᴰ.head refl)) f.sound.single) (λ x m. go x (Memᴰ.cases_cons m)) in
    let c : length (positions t.done) ≡ length t.done = length-map t.done _ in
    omega arith
  where
    go : (x : ℕ) → (x ≡ p) ⊎ Finished t x → x < n
    go x (inl e) = rw e h
    go x (inr m) = f.within x m

-- the finished positions lie in the graph, and so does what hangs below them, finished
record Steady (g : List Node) (n : ℕ) (t : State) : Type 0 where
  within : (x : ℕ) → Finished t x → x < n
  closed : (p c : ℕ) → Finished t p → Memᴰ c (next g p) → Finished t c

-- from s the walk has come to t, where those of ps are finished
record Ran (g : List Node) (n : ℕ) (ps : List ℕ) (s t : State) : Type 0 where
  steady : Steady g n t
  ended : (x : ℕ) → Memᴰ x ps → Finished t x
  kept : (x : ℕ) → Finished s x → Finished t x

module _ (g : List Node) (n : ℕ) (inside : (p c : ℕ) → Memᴰ c (next g p) → c < n) where
  Runs : List ℕ → List ℕ → State → State → Type 0
  Runs path ps s t = ((c : ℕ) → Memᴰ c ps → c < n) → Steady g n s → Ran g n ps s t

  passed : (path : List ℕ) (p : ℕ) (s : State) (i : ℕ) → id_in s.done p ≡ Some i → Runs path (p ∷ []) s s
  unfolding Runs
  passed path p s i q h y = record { steady = y; ended = λ x m. rw (Memᴰ.eq_of_singleton m) (id_in_in s.done p i q); kept = λ x m. m }

  stayed : (path : List ℕ) (s : State) → Runs path [] s s
  unfolding Runs
  stayed path s h y = record { steady = y; ended = λ x m. absurd (Memᴰ.not-nil m); kept = λ x m. m }

  followed : (path : List ℕ) (p : ℕ) (ps : List ℕ) (s t u : State) → Runs path (p ∷ []) s t → Runs path ps t u → Runs path (p ∷ ps) s u
  unfolding Runs
  followed path p ps s t u a b h y =
      let x = a (λ c m. h c (Memᴰ.head (Memᴰ.eq_of_singleton m))) y in
      let z = b (λ c m. h c (Memᴰ.tail m)) x.steady in
      record { steady = z.steady; ended = λ c m. go x z c (Memᴰ.cases_cons m); kept = λ c m. z.kept c (x.kept c m) }
    where
      go : Ran g n (p ∷ []) s t → Ran g n ps t u → (c : ℕ) → (c ≡ p) ⊎ Memᴰ c ps → Finished u c
      go x z c (inl e) = z.kept c (x.ended c (Memᴰ.head e))
      go x z c (inr m) = z.ended c m

  finished : (path : List ℕ) (p : ℕ) (s t : State) → ¬ Memᴰ p path → id_in s.done p ≡ None → Runs (p ∷ path) (next g p) s t → Runs path (p ∷ []) s (finish g p t)
  unfolding Runs
  finished path p s t f q a h y =
      let r = a (inside p) y in
      record {
        steady = record { within = λ x m. low r x (cases x m); closed = λ x c m k. under r x c (cases x m) k };
        ended = λ x m. rw finish_positions (Memᴰ.head (Memᴰ.eq_of_singleton m));
        kept = λ x m. rw finish_positions (Memᴰ.tail (r.kept x m));
      }
    where
      cases : (x : ℕ) → Finished (finish g p t) x → (x ≡ p) ⊎ Finished t x
      cases x m = Memᴰ.cases_cons (rw finish_positions at m)

      low : Ran g n (next g p) s t → (x : ℕ) → (x ≡ p) ⊎ Finished t x → x < n
      low r x (inl e) = h x (Memᴰ.head e)
      low r x (inr m) = r.steady.within x m

      under : Ran g n (next g p) s t → (x c : ℕ) → (x ≡ p) ⊎ Finished t x → Memᴰ c (next g x) → Finished (finish g p t) c
      under r x c (inl e) k = rw finish_positions (Memᴰ.tail (r.ended c (rw e at k)))
      under r x c (inr m) k = rw finish_positions (Memᴰ.tail (r.steady.closed x c m k))

  -- what a visit of p comes to
  pub record Visited (path : List ℕ) (p : ℕ) (s t : State) : Type 0 where
    pub fine : Fine g n path t
    pub done : Finished t p
    pub kept : (x : ℕ) → Finished s x → Finished t x

  pub visit_fine : (d : ℕ) (path : List ℕ) (p : ℕ) (s t : State) → visit g d path p s ≡ going t → p < n → Fine g n path s → Visited path p s t
  unfolding Runs
  visit_fine d path p s t e h f =
      let a = visit_after g d path p s t e f.sound f.unfinished in
      let r = visit_ind g (λ path p s u. Runs path (p ∷ []) s u) Runs passed stayed followed finished d path p s t e (λ c m. rw (Memᴰ.eq_of_singleton m) h) (record { within = f.within; closed = f.closed }) in
      record {
        fine = record { sound = a.sound; unfinished = a.unfinished; within = r.steady.within; closed = r.steady.closed };
        done = a.done_all p (Memᴰ.head refl);
        kept = a.kept;
      }

  pub fine_start : Fine g n [] start
  unfolding start
  fine_start = record { sound = sound_start g; unfinished = λ x m. absurd (Memᴰ.not-nil m); within = λ x m. absurd (Memᴰ.not-nil m); closed = λ p c m. absurd (Memᴰ.not-nil m) }
