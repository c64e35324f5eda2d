-- Lists that hold nothing twice, and how long they can be.
-- Assumes nothing.
use Rattle.std.specs.Prelude.{ℕ, zero, suc, ◌<◌, ◌≤◌, ◌≡◌, refl, Bool, true, false, not, ◌⊎◌, ◌≢◌, eqb, length}
use Rattle.std.proofs.Common.{sym, ◌∙◌, inl, inr, arith, not-suc-le-zero, eqb-true}
use mathlib.Core.List.Memᴰ
use mathlib.Core.List.{List, [], ◌∷◌, ◌++◌, Memᴰ}
use Rattle.std.proofs.lemmas.Bool.{eqb-false}
use Rattle.forest.specs.Lists.{keep}

-- no number twice
pub data Distinct : List ℕ → Type 0 where
  empty : Distinct []
  fresh : {p : ℕ} {l : List ℕ} → ¬ Memᴰ p l → Distinct l → Distinct (p ∷ l)

pub distinct_append : {a : List ℕ} (b : List ℕ) → Distinct a → Distinct b → ((x : ℕ) → Memᴰ x a → Memᴰ x b → ⊥) → Distinct (a ++ b)
distinct_append b empty d h = d
distinct_append b (fresh {p = p} {l = l} f c) d h = fresh (λ m. go (Memᴰ.append_cases l m)) (distinct_append b c d (λ x m. h x (Memᴰ.tail m)))
  where
    go : Memᴰ p l ⊎ Memᴰ p b → ⊥
    go (inl m) = f m
    go (inr m) = h p (Memᴰ.head refl) m

pub distinct_snoc : {o : List ℕ} (p : ℕ) → Distinct o → ¬ Memᴰ p o → Distinct (o ++ p ∷ [])
distinct_snoc {o} p d f = distinct_append (p ∷ []) d (fresh Memᴰ.not-nil empty) (λ x m n. f (rw (sym (Memᴰ.eq_of_singleton n)) m))

-- the list without n
without : ℕ → List ℕ → List ℕ
without n l = keep (λ x. not (eqb x n)) l

without_in : (n : ℕ) (l : List ℕ) (x : ℕ) → Memᴰ x (without n l) → Memᴰ x l × (x ≢ n)
unfolding without keep
without_in n [] x m = absurd (Memᴰ.not-nil m)
without_in n (y ∷ l) x m = go (eqb y n) refl (without_in n l x)
  where
    further : Memᴰ x l × (x ≢ n) → Memᴰ x (y ∷ l) × (x ≢ n)
    further (a, b) = (Memᴰ.tail a, b)

    here : eqb y n ≡ false → (Memᴰ x (without n l) → Memᴰ x l × (x ≢ n)) → (x ≡ y) ⊎ Memᴰ x (without n l) → Memᴰ x (y ∷ l) × (x ≢ n)
    here t ih (inl e) = (Memᴰ.head e, λ h. eqb-false y n t (sym e ∙ h))
    here t ih (inr k) = further (ih k)

    go : (b : Bool) → eqb y n ≡ b → (Memᴰ x (without n l) → Memᴰ x l × (x ≢ n)) → Memᴰ x (y ∷ l) × (x ≢ n)
    go true t ih = further (ih (rw (t, keep) at m))
    go false t ih = here t ih (Memᴰ.cases_cons (rw (t, keep) at m))

without_distinct : (n : ℕ) {l : List ℕ} → Distinct l → Distinct (without n l)
unfolding without keep
without_distinct n empty = empty
without_distinct n (fresh {p = y} {l = l} f d) = go (eqb y n) refl (without_distinct n d)
  where
    go : (b : Bool) → eqb y n ≡ b → Distinct (without n l) → Distinct (without n (y ∷ l))
    go true t ih = rw (t, keep) ih
    go false t ih = rw (t, keep) (fresh (λ m. f (without_in n l y m).0) ih)

-- of distinct numbers at most one is n
without_length : (n : ℕ) {l : List ℕ} → Distinct l → length l ≤ suc (length (without n l)) × (¬ Memᴰ n l → length l ≤ length (without n l))
unfolding without keep
without_length n empty = (omega arith, λ f. omega arith)
without_length n (fresh {p = y} {l = l} f d) = go (eqb y n) refl (without_length n d)
  where
    go : (b : Bool) → eqb y n ≡ b → length l ≤ suc (length (without n l)) × (¬ Memᴰ n l → length l ≤ length (without n l))
        → length (y ∷ l) ≤ suc (length (without n (y ∷ l))) × (¬ Memᴰ n (y ∷ l) → length (y ∷ l) ≤ length (without n (y ∷ l)))
    go true t ih =
        let e : y ≡ n = eqb-true y n t in
        let h : length l ≤ length (without n l) = ih.1 (λ m. f (rw e m)) in
        rw (t, keep) (omega arith, λ k. absurd (k (Memᴰ.head (sym e))))
    go false t ih = rw (t, keep) (omega arith, λ k. let h : length l ≤ length (without n l) = ih.1 (λ m. k (Memᴰ.tail m)) in omega arith)

-- distinct numbers below n are at most n
pub pigeonhole : (n : ℕ) {l : List ℕ} → Distinct l → ((x : ℕ) → Memᴰ x l → x < n) → length l ≤ n
pigeonhole zero empty h = omega arith
pigeonhole zero (fresh {p = y} f d) h = absurd (not-suc-le-zero (h y (Memᴰ.head refl)))
pigeonhole (suc n) {l} d h =
    let k : length (without n l) ≤ n = pigeonhole n (without_distinct n d) (λ x m. let (a, b) = without_in n l x m in let u : x < suc n = h x a in omega arith) in
    let j : length l ≤ suc (length (without n l)) = (without_length n d).0 in
    omega arith

-- distinct numbers that all stand in another list are at most as many as that list has
pub pigeonhole_in : (o : List ℕ) {l : List ℕ} → Distinct l → ((x : ℕ) → Memᴰ x l → Memᴰ x o) → length l ≤ length o
pigeonhole_in [] empty h = omega arith
pigeonhole_in [] (fresh {p = y} f d) h = absurd (Memᴰ.not-nil (h y (Memᴰ.head refl)))
pigeonhole_in (y ∷ o) {l} d h =
    let k : length (without y l) ≤ length o = pigeonhole_in o (without_distinct y d) (λ x m. let (a, b) = without_in y l x m in other x b (Memᴰ.cases_cons (h x a))) in
    let j : length l ≤ suc (length (without y l)) = (without_length y d).0 in
    omega arith
  where
    other : (x : ℕ) → x ≢ y → (x ≡ y) ⊎ Memᴰ x o → Memᴰ x o
    other x b (inl e) = absurd (b e)
    other x b (inr m) = m
