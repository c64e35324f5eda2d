-- What a search in a list found, or that it found nothing.
-- Assumes nothing.
use Prim.Native.Nat.{ℕ, zero, suc, ◌+◌, ◌≤◌, ◌<◌}
use Rattle.std.specs.Prelude.{◌≡◌, Bool, ◌||◌, ◌⊎◌, eqb, take, drop, get_or, Option, Some, None}
use Rattle.std.proofs.Math.Path.{refl}
use Rattle.std.proofs.Common.{sym, ◌∙◌, ap, true≢false, inl, inr, eqb-true, eq-eqb}
use Rattle.std.proofs.Math.Bool.{true, false, or-true}
use Rattle.std.proofs.lemmas.Bool.{false≢true}
use mathlib.Core.List.Memᴰ
use mathlib.Core.List.{List, [], ◌∷◌, Memᴰ}
use Rattle.std.proofs.Math.Decide.{ℕ_discrete}
use native.Mathlib.Omega.{arith}
use Rattle.std.proofs.Math.ListN.{length}
use Rattle.record.specs.Lists.{run, all, flat}
use Rattle.record.proofs.Basics.{clash, both_true}
use Rattle.forest.specs.Lists.{has, here_or, there_or, first_some, lowest, highest, later, last_of}

-- HAS -------------------------------------------------------------------------------------------

pub has_in : (p : ℕ) (l : List ℕ) → has p l ≡ true → Memᴰ p l
unfolding has
has_in p [] e = absurd (false≢true e)
has_in p (q ∷ qs) e = go (eqb p q) refl e (has_in p qs)
  where
    go : (b : Bool) → eqb p q ≡ b → (b || has p qs) ≡ true → (has p qs ≡ true → Memᴰ p qs) → Memᴰ p (q ∷ qs)
    go true t h ih = Memᴰ.head (eqb-true p q t)
    go false t h ih = Memᴰ.tail (ih h)

pub in_has : (p : ℕ) (l : List ℕ) → Memᴰ p l → has p l ≡ true
unfolding has
in_has p [] x' = elim x' [ ]
in_has p (q ∷ qs) (Memᴰ.head e) = rw (eq-eqb p q e)
in_has p (q ∷ qs) (Memᴰ.tail m) = rw (in_has p qs m) (or-true (eqb p q))

pub not_in : (p : ℕ) (l : List ℕ) → has p l ≡ false → ¬ Memᴰ p l
not_in p l e m = true≢false (sym (in_has p l m) ∙ e)

-- ALL -------------------------------------------------------------------------------------------

pub all_true : (t : ℕ → Bool) (l : List ℕ) → all t l ≡ true → (x : ℕ) → Memᴰ x l → t x ≡ true
unfolding all
all_true t [] e x x4 = elim x4 [ ]
all_true t (y ∷ l) e x (Memᴰ.head h) = rw h (both_true (t y) (all t l) e).0
all_true t (y ∷ l) e x (Memᴰ.tail m) = all_true t l (both_true (t y) (all t l) e).1 x m

pub true_all : (t : ℕ → Bool) (l : List ℕ) → ((x : ℕ) → Memᴰ x l → t x ≡ true) → all t l ≡ true
unfolding all
true_all t [] h = refl
true_all t (y ∷ l) h = rw (h y (Memᴰ.head refl)) (true_all t l (λ x m. h x (Memᴰ.tail m)))

pub all_false : (t : ℕ → Bool) (l : List ℕ) → all t l ≡ false → (x : ℕ) × Memᴰ x l × (t x ≡ false)
unfolding all
all_false t [] e = absurd (clash (cc))
all_false t (y ∷ l) e = go (t y) refl (all_false t l)
  where
    go : (b : Bool) → t y ≡ b → (all t l ≡ false → (x : ℕ) × Memᴰ x l × (t x ≡ false)) → (x : ℕ) × Memᴰ x (y ∷ l) × (t x ≡ false)
    go true h ih = let (x, m, f) = ih (rw h at e) in (x, Memᴰ.tail m, f)
    go false h ih = (y, Memᴰ.head refl, h)

-- LOWEST, HIGHEST, LAST -------------------------------------------------------------------------

here_or_none : (b : Bool) (o : Option ℕ) → here_or b o ≡ None → (b ≡ false) × (o ≡ None)
unfolding here_or
here_or_none true o e = absurd (clash (cc))
here_or_none false None e = (refl, refl)
here_or_none false (Some i) e = absurd (clash (cc))

pub here_or_some : (b : Bool) (o : Option ℕ) (i : ℕ) → here_or b o ≡ Some i → ((b ≡ true) × (i ≡ 0)) ⊎ ((j : ℕ) × (o ≡ Some j) × (i ≡ suc j))
unfolding here_or
here_or_some true o i e = inl (refl, cc)
here_or_some false None i e = absurd (clash (cc))
here_or_some false (Some j) i e = inr (j, refl, cc)

here_or_past : (b : Bool) (o : Option ℕ) (i : ℕ) → here_or b o ≡ Some i → 0 < i → (b ≡ false) × ((j : ℕ) × (o ≡ Some j) × (i ≡ suc j))
unfolding here_or
here_or_past true o i e h = let z : 0 ≡ i = cc in absurd (omega arith)
here_or_past false None i e h = absurd (clash (cc))
here_or_past false (Some j) i e h = (refl, (j, refl, cc))

module _ {A : Type 0} where
  later_none : (b : Bool) (x : A) (o : Option A) → later b x o ≡ None → (b ≡ false) × (o ≡ None)
  unfolding later
  later_none b x (Some y) e = absurd (clash (cc))
  later_none true x None e = absurd (clash (cc))
  later_none false x None e = (refl, refl)

  -- where none is found the test fails at each
  pub lowest_none : (t : A → Bool) (l : List A) → lowest t l ≡ None → (x : A) → Memᴰ x l → t x ≡ false
  unfolding lowest
  lowest_none t [] e x x4 = elim x4 [ ]
  lowest_none t (y ∷ l) e x (Memᴰ.head h) = rw h (here_or_none (t y) (lowest t l) e).0
  lowest_none t (y ∷ l) e x (Memᴰ.tail m) = lowest_none t l (here_or_none (t y) (lowest t l) e).1 x m

  pub last_of_none : (t : A → Bool) (l : List A) → last_of t l ≡ None → (x : A) → Memᴰ x l → t x ≡ false
  unfolding last_of
  last_of_none t [] e x x4 = elim x4 [ ]
  last_of_none t (y ∷ l) e x (Memᴰ.head h) = rw h (later_none (t y) y (last_of t l) e).0
  last_of_none t (y ∷ l) e x (Memᴰ.tail m) = last_of_none t l (later_none (t y) y (last_of t l) e).1 x m

  pub highest_lt : (t : A → Bool) (l : List A) (q : ℕ) → highest t l ≡ Some q → q < length l
  unfolding highest there_or
  highest_lt t [] q e = absurd (clash (cc))
  highest_lt t (y ∷ l) q e = go (t y) (highest t l) (highest_lt t l) e
    where
      go : (b : Bool) (o : Option ℕ) → ((k : ℕ) → o ≡ Some k → k < length l) → there_or b o ≡ Some q → q < suc (length l)
      go b (Some i) ih h = let u : i < length l = ih i refl in let v : suc i ≡ q = cc in omega arith
      go true None ih h = let v : 0 ≡ q = cc in omega arith
      go false None ih h = absurd (clash (cc))

  pub lowest_lt : (t : A → Bool) (l : List A) (i : ℕ) → lowest t l ≡ Some i → i < length l
  unfolding lowest
  lowest_lt t [] i e = absurd (clash (cc))
  lowest_lt t (x ∷ l) i e = go (here_or_some (t x) (lowest t l) i e) (lowest_lt t l)
    where
      go : ((t x ≡ true) × (i ≡ 0)) ⊎ ((j : ℕ) × (lowest t l ≡ Some j) × (i ≡ suc j)) → ((j : ℕ) → lowest t l ≡ Some j → j < length l) → i < suc (length l)
      go (inl (a, b)) ih = omega arith
      go (inr (j, a, b)) ih = let q = ih j a in omega arith

  pub none_lowest : (t : A → Bool) (l : List A) → ((x : A) → Memᴰ x l → t x ≡ false) → lowest t l ≡ None
  unfolding lowest here_or
  none_lowest t [] h = refl
  none_lowest t (x ∷ l) h = rw (h x (Memᴰ.head refl), none_lowest t l (λ y m. h y (Memᴰ.tail m)))

  pub none_last_of : (t : A → Bool) (l : List A) → ((x : A) → Memᴰ x l → t x ≡ false) → last_of t l ≡ None
  unfolding last_of later
  none_last_of t [] h = refl
  none_last_of t (x ∷ l) h = rw (h x (Memᴰ.head refl), none_last_of t l (λ y m. h y (Memᴰ.tail m)))

-- the search in a run of numbers finds a number

-- the search's place in a run is the number there
pub lowest_run : (t : ℕ → Bool) (a n i : ℕ) → lowest t (run a n) ≡ Some i → (t (a + i) ≡ true) × (i < n)
unfolding lowest run
lowest_run t a zero i e = absurd (clash (cc))
lowest_run t a (suc n) i e = go (here_or_some (t a) (lowest t (run (suc a) n)) i e) (lowest_run t (suc a) n)
  where
    go : ((t a ≡ true) × (i ≡ 0)) ⊎ ((j : ℕ) × (lowest t (run (suc a) n) ≡ Some j) × (i ≡ suc j)) → ((j : ℕ) → lowest t (run (suc a) n) ≡ Some j → (t (suc a + j) ≡ true) × (j < n)) → (t (a + i) ≡ true) × (i < suc n)
    go (inl (h, z)) ih = (ap t (let q : a + i ≡ a = omega arith in q) ∙ h, omega arith)
    go (inr (j, k, z)) ih = let (u, v) = ih j k in (ap t (let q : a + i ≡ suc a + j = omega arith in q) ∙ u, omega arith)

pub lowest_ids : (t : ℕ → Bool) (n p : ℕ) → lowest t (run 0 n) ≡ Some p → (t p ≡ true) × (p < n)
lowest_ids t n p e = let (u, v) = lowest_run t 0 n p e in (ap t (let q : p ≡ 0 + p = omega arith in q) ∙ u, v)

-- the search's place in a run is the first: at no number before it the test passes
pub lowest_before : (t : ℕ → Bool) (a n i : ℕ) → lowest t (run a n) ≡ Some i → (x : ℕ) → a ≤ x → x < a + i → t x ≡ false
unfolding lowest run
lowest_before t a zero i e x p q = absurd (clash (cc))
lowest_before t a (suc n) i e x p q =
    let (f, (j, g, z)) = here_or_past (t a) (lowest t (run (suc a) n)) i e (omega arith) in
    elim (ℕ_discrete x a) [
      | yes d ↦ rw d f
      | no d ↦ lowest_before t (suc a) n j g x (omega arith) (omega arith)
    ]

-- tests that agree find the same
pub lowest_agree : (t u : ℕ → Bool) (a n : ℕ) → ((x : ℕ) → a ≤ x → x < a + n → t x ≡ u x) → lowest t (run a n) ≡ lowest u (run a n)
unfolding lowest run
lowest_agree t u a zero h = refl
lowest_agree t u a (suc n) h = rw (h a (omega arith) (omega arith), lowest_agree t u (suc a) n (λ x p q. h x (omega arith) (omega arith)))

-- the search in a run finds the first number at which the test passes
pub lowest_at : (t : ℕ → Bool) (a n k : ℕ) → ((x : ℕ) → x < a + k → t x ≡ false) → t (a + k) ≡ true → k < n → lowest t (run a n) ≡ Some k
unfolding lowest run here_or
lowest_at t a zero k f e h = absurd (omega arith)
lowest_at t a (suc n) zero f e h = let q : a + 0 ≡ a = omega arith in rw (rw q at e)
lowest_at t a (suc n) (suc k) f e h =
    let q : a + suc k ≡ suc a + k = omega arith in
    rw (f a (omega arith), lowest_at t (suc a) n k (λ x b. f x (omega arith)) (rw q at e) (omega arith))

-- FIRSTSOME -------------------------------------------------------------------------------------

pub first_some_none : (i : ℕ) (l : List (Option ℕ)) → first_some i l ≡ None → (o : Option ℕ) → Memᴰ o l → o ≡ None
unfolding first_some
first_some_none i [] e o m = elim m [ ]
first_some_none i (None ∷ l) e o (Memᴰ.head h) = h
first_some_none i (None ∷ l) e o (Memᴰ.tail m) = first_some_none (suc i) l e o m
first_some_none i (Some c ∷ l) e o m = absurd (clash (cc))

pub none_first_some : (i : ℕ) (l : List (Option ℕ)) → ((o : Option ℕ) → Memᴰ o l → o ≡ None) → first_some i l ≡ None
unfolding first_some
none_first_some i [] h = refl
none_first_some i (None ∷ l) h = none_first_some (suc i) l (λ o m. h o (Memᴰ.tail m))
none_first_some i (Some c ∷ l) h = absurd (clash (let z = h (Some c) (Memᴰ.head refl) in cc))

-- ELEMENTS --------------------------------------------------------------------------------------

module _ {A : Type 0} where
  -- what get_or gives is in the list, or the default
  pub get_d_in : (l : List A) (p : ℕ) (d : A) → Memᴰ (get_or l p d) l ⊎ (get_or l p d ≡ d)
  get_d_in [] p d = inr refl
  get_d_in (x ∷ l) zero d = inl (Memᴰ.head refl)
  get_d_in (x ∷ l) (suc p) d = go (get_d_in l p d)
    where
      go : Memᴰ (get_or l p d) l ⊎ (get_or l p d ≡ d) → Memᴰ (get_or l p d) (x ∷ l) ⊎ (get_or l p d ≡ d)
      go (inl m) = inl (Memᴰ.tail m)
      go (inr e) = inr e

  pub get_d_mem : (l : List A) (p : ℕ) (d : A) → p < length l → Memᴰ (get_or l p d) l
  get_d_mem [] p d h = absurd (omega arith)
  get_d_mem (x ∷ l) zero d h = Memᴰ.head refl
  get_d_mem (x ∷ l) (suc p) d h = Memᴰ.tail (get_d_mem l p d (omega arith))

  pub mem_at : (d : A) {x : A} {l : List A} → Memᴰ x l → (p : ℕ) × (get_or l p d ≡ x)
  mem_at d (Memᴰ.head e) = (0, sym e)
  mem_at d (Memᴰ.tail m) = let (p, e) = mem_at d m in (suc p, e)

  pub take_from : (n : ℕ) (l : List A) (x : A) → Memᴰ x (take n l) → Memᴰ x l
  take_from zero l x m = absurd (Memᴰ.not-nil m)
  take_from (suc n) [] x m = absurd (Memᴰ.not-nil m)
  take_from (suc n) (y ∷ l) x (Memᴰ.head q) = Memᴰ.head q
  take_from (suc n) (y ∷ l) x (Memᴰ.tail m) = Memᴰ.tail (take_from n l x m)

  pub drop_from : (n : ℕ) (l : List A) (x : A) → Memᴰ x (drop n l) → Memᴰ x l
  drop_from zero l x m = m
  drop_from (suc n) [] x m = m
  drop_from (suc n) (y ∷ l) x m = Memᴰ.tail (drop_from n l x m)

module _ {A B : Type 0} where
  -- an element of a flat list comes from one of the lists, and back
  pub flat_from : (f : A → List B) (xs : List A) (y : B) → Memᴰ y (flat f xs) → (x : A) × Memᴰ x xs × Memᴰ y (f x)
  unfolding flat
  flat_from f [] y m = absurd (Memᴰ.not-nil m)
  flat_from f (x ∷ xs) y m = go (Memᴰ.append_cases (f x) m) (flat_from f xs y)
    where
      go : Memᴰ y (f x) ⊎ Memᴰ y (flat f xs) → (Memᴰ y (flat f xs) → (z : A) × Memᴰ z xs × Memᴰ y (f z)) → (z : A) × Memᴰ z (x ∷ xs) × Memᴰ y (f z)
      go (inl n) ih = (x, Memᴰ.head refl, n)
      go (inr n) ih = let (z, a, b) = ih n in (z, Memᴰ.tail a, b)

  pub flat_in : (f : A → List B) (xs : List A) (x : A) (y : B) → Memᴰ x xs → Memᴰ y (f x) → Memᴰ y (flat f xs)
  unfolding flat
  flat_in f [] x y x4 n = elim x4 [ ]
  flat_in f (z ∷ xs) x y (Memᴰ.head e) n = Memᴰ.append_left _ (rw e at n)
  flat_in f (z ∷ xs) x y (Memᴰ.tail m) n = Memᴰ.append_right (f z) (flat_in f xs x y m n)
