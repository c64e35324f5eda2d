-- Runs, kept and sorted lists: what is in them, that nothing is in them twice, and in which order.
-- Assumes nothing.
use Rattle.std.specs.Prelude.{ℕ, zero, suc, ◌+◌, ◌<◌, ◌≤◌, ◌≡◌, Bool, ◌⊎◌, length}
use Rattle.std.proofs.Math.Path.{refl}
use Rattle.std.proofs.Common.{sym, ◌∙◌, ap, arith}
use Rattle.std.proofs.Math.Bool.{true, false, not}
use mathlib.Core.List.Memᴰ
use mathlib.Core.List.{List, [], ◌∷◌, ◌++◌, Memᴰ}
use Rattle.std.proofs.Math.Logic.{inl, inr}
use Rattle.std.proofs.Math.Decide.{ℕ_discrete}
use Rattle.record.specs.Lists.{run}
use Rattle.record.proofs.Basics.{clash}
use Rattle.forest.specs.Lists.{keep, insert, sort}
use Rattle.claims.specs.Distinct.{Distinct, empty, fresh}

-- neighbours stand in the relation
pub data Linked (R : ℕ → ℕ → Type 0) : List ℕ → Type 0 where
  linked_nil : Linked R []
  linked_one : {x : ℕ} → Linked R (x ∷ [])
  linked : {x y : ℕ} {l : List ℕ} → R x y → Linked R (y ∷ l) → Linked R (x ∷ y ∷ l)

module _ {R : ℕ → ℕ → Type 0} where
  pub linked_all : (l : List ℕ) → ((x y : ℕ) → Memᴰ x l → Memᴰ y l → R x y) → Linked R l
  linked_all [] h = linked_nil
  linked_all (x ∷ []) h = linked_one
  linked_all (x ∷ y ∷ l) h = linked (h x y (Memᴰ.head refl) (Memᴰ.tail (Memᴰ.head refl))) (linked_all (y ∷ l) (λ u v m n. h u v (Memᴰ.tail m) (Memᴰ.tail n)))

  pub linked_append : {a b : List ℕ} → Linked R a → Linked R b → ((x y : ℕ) → Memᴰ x a → Memᴰ y b → R x y) → Linked R (a ++ b)
  linked_append linked_nil t h = t
  linked_append linked_one linked_nil h = linked_one
  linked_append linked_one linked_one h = linked (h _ _ (Memᴰ.head refl) (Memᴰ.head refl)) linked_one
  linked_append linked_one (linked r t) h = linked (h _ _ (Memᴰ.head refl) (Memᴰ.head refl)) (linked r t)
  linked_append (linked r s) t h = linked r (linked_append s t (λ x y m n. h x y (Memᴰ.tail m) n))

pub linked_map : {R S : ℕ → ℕ → Type 0} {l : List ℕ} → ((x y : ℕ) → Memᴰ x l → Memᴰ y l → R x y → S x y) → Linked R l → Linked S l
linked_map h linked_nil = linked_nil
linked_map h linked_one = linked_one
linked_map h (linked r s) = linked (h _ _ (Memᴰ.head refl) (Memᴰ.tail (Memᴰ.head refl)) r) (linked_map (λ x y m n. h x y (Memᴰ.tail m) (Memᴰ.tail n)) s)

pub linked_rest : {R : ℕ → ℕ → Type 0} {x : ℕ} {l : List ℕ} → Linked R (x ∷ l) → Linked R l
linked_rest linked_one = linked_nil
linked_rest (linked r s) = s

-- RUN -----------------------------------------------------------------------------------------

pub run_in : (a n x : ℕ) → Memᴰ x (run a n) → (a ≤ x) × (x < a + n)
unfolding run
run_in a zero x m = absurd (Memᴰ.not-nil m)
run_in a (suc n) x (Memᴰ.head e) = (omega arith, omega arith)
run_in a (suc n) x (Memᴰ.tail m) = let (u, v) = run_in (suc a) n x m in (omega arith, omega arith)

pub in_run : (a n x : ℕ) → a ≤ x → x < a + n → Memᴰ x (run a n)
unfolding run
in_run a zero x u v = absurd (omega arith)
in_run a (suc n) x u v = go (ℕ_discrete x a) (in_run (suc a) n x)
  where
    go : Dec (x ≡ a) → (a < x → x < suc a + n → Memᴰ x (run (suc a) n)) → Memᴰ x (a ∷ run (suc a) n)
    go (yes e) ih = Memᴰ.head e
    go (no d) ih = Memᴰ.tail (ih (omega arith) (omega arith))

pub run_distinct : (a n : ℕ) → Distinct (run a n)
unfolding run
run_distinct a zero = empty
run_distinct a (suc n) = fresh (λ m. let (u, v) = run_in (suc a) n a m in absurd (omega arith)) (run_distinct (suc a) n)

pub linked_run : {R : ℕ → ℕ → Type 0} (a n : ℕ) → ((j : ℕ) → suc j < a + n → R j (suc j)) → Linked R (run a n)
unfolding run
linked_run a zero h = linked_nil
linked_run a (suc zero) h = linked_one
linked_run a (suc (suc n)) h = linked (h a (omega arith)) (linked_run (suc a) (suc n) (λ j k. h j (omega arith)))

pub run_snoc : (a k : ℕ) → run a k ++ (a + k) ∷ [] ≡ run a (suc k)
unfolding run
run_snoc a zero = let q : a + 0 ≡ a = omega arith in rw q
run_snoc a (suc k) = let q : a + suc k ≡ suc a + k = omega arith in rw q (ap {B = List ℕ} (λ l. a ∷ l) (run_snoc (suc a) k))

pub run_append : (a k j : ℕ) → run a k ++ run (a + k) j ≡ run a (k + j)
unfolding run
run_append a zero j = let p : a + 0 ≡ a = omega arith in let q : 0 + j ≡ j = omega arith in rw (p, q)
run_append a (suc k) j =
    let p : a + suc k ≡ suc a + k = omega arith in
    let q : suc k + j ≡ suc (k + j) = omega arith in
    rw (p, q) (ap {B = List ℕ} (λ l. a ∷ l) (run_append (suc a) k j))

-- the beginning of a run is a run
pub run_begin : (l r : List ℕ) (a n : ℕ) → l ++ r ≡ run a n → (l ≡ run a (length l)) × (length l ≤ n)
unfolding run
run_begin [] r a n e = (refl, omega arith)
run_begin (x ∷ l) r a zero e = absurd (clash (cc))
run_begin (x ∷ l) r a (suc n) e = let (u, v) = run_begin l r (suc a) n cc in let z : x ≡ a = cc in (cc, omega arith)

-- KEEP ----------------------------------------------------------------------------------------

module _ (t : ℕ → Bool) where
  pub keep_in : (l : List ℕ) (x : ℕ) → Memᴰ x (keep t l) → Memᴰ x l × (t x ≡ true)
  unfolding keep
  keep_in [] x m = absurd (Memᴰ.not-nil m)
  keep_in (y ∷ l) x m = go (t y) refl (keep_in l x)
    where
      further : Memᴰ x l × (t x ≡ true) → Memᴰ x (y ∷ l) × (t x ≡ true)
      further (a, b) = (Memᴰ.tail a, b)

      here : t y ≡ true → (Memᴰ x (keep t l) → Memᴰ x l × (t x ≡ true)) → (x ≡ y) ⊎ Memᴰ x (keep t l) → Memᴰ x (y ∷ l) × (t x ≡ true)
      here e ih (inl h) = (Memᴰ.head h, rw h e)
      here e ih (inr k) = further (ih k)

      go : (b : Bool) → t y ≡ b → (Memᴰ x (keep t l) → Memᴰ x l × (t x ≡ true)) → Memᴰ x (y ∷ l) × (t x ≡ true)
      go true e ih = here e ih (Memᴰ.cases_cons (rw (e, keep) at m))
      go false e ih = further (ih (rw (e, keep) at m))

  pub in_keep : (l : List ℕ) (x : ℕ) → Memᴰ x l → t x ≡ true → Memᴰ x (keep t l)
  unfolding keep
  in_keep [] x x4 e = elim x4 [ ]
  in_keep (y ∷ l) x (Memᴰ.head h) e = rw (sym (ap t h) ∙ e, keep) (Memᴰ.head h)
  in_keep (y ∷ l) x (Memᴰ.tail m) e = go (t y) refl (in_keep l x m e)
    where
      go : (b : Bool) → t y ≡ b → Memᴰ x (keep t l) → Memᴰ x (keep t (y ∷ l))
      go true h k = rw (h, keep) (Memᴰ.tail k)
      go false h k = rw (h, keep) k

  pub keep_distinct : {l : List ℕ} → Distinct l → Distinct (keep t l)
  unfolding keep
  keep_distinct empty = empty
  keep_distinct (fresh {p = y} {l = l} f d) = go (t y) refl (keep_distinct d)
    where
      go : (b : Bool) → t y ≡ b → Distinct (keep t l) → Distinct (keep t (y ∷ l))
      go true h k = rw (h, keep) (fresh (λ m. f (keep_in l y m).0) k)
      go false h k = rw (h, keep) k

-- SORT ----------------------------------------------------------------------------------------

module _ (before : ℕ → ℕ → Bool) where
  insert_in : (x : ℕ) (l : List ℕ) (z : ℕ) → Memᴰ z (insert before x l) → (z ≡ x) ⊎ Memᴰ z l
  unfolding insert
  insert_in x [] z m = Memᴰ.cases_cons m
  insert_in x (y ∷ l) z m = go (before x y) refl (insert_in x l z)
    where
      over : (z ≡ x) ⊎ Memᴰ z l → (z ≡ x) ⊎ Memᴰ z (y ∷ l)
      over (inl e) = inl e
      over (inr k) = inr (Memᴰ.tail k)

      here : (Memᴰ z (insert before x l) → (z ≡ x) ⊎ Memᴰ z l) → (z ≡ y) ⊎ Memᴰ z (insert before x l) → (z ≡ x) ⊎ Memᴰ z (y ∷ l)
      here ih (inl e) = inr (Memᴰ.head e)
      here ih (inr k) = over (ih k)

      go : (b : Bool) → before x y ≡ b → (Memᴰ z (insert before x l) → (z ≡ x) ⊎ Memᴰ z l) → (z ≡ x) ⊎ Memᴰ z (y ∷ l)
      go true e ih = Memᴰ.cases_cons (rw (e, insert) at m)
      go false e ih = here ih (Memᴰ.cases_cons (rw (e, insert) at m))

  in_insert : (x : ℕ) (l : List ℕ) (z : ℕ) → (z ≡ x) ⊎ Memᴰ z l → Memᴰ z (insert before x l)
  unfolding insert
  in_insert x [] z (inl e) = Memᴰ.head e
  in_insert x [] z (inr m) = absurd (Memᴰ.not-nil m)
  in_insert x (y ∷ l) z c = go (before x y) refl c (in_insert x l z)
    where
      all_of : (z ≡ x) ⊎ Memᴰ z (y ∷ l) → Memᴰ z (x ∷ y ∷ l)
      all_of (inl e) = Memᴰ.head e
      all_of (inr m) = Memᴰ.tail m

      rest : (z ≡ y) ⊎ Memᴰ z l → ((z ≡ x) ⊎ Memᴰ z l → Memᴰ z (insert before x l)) → Memᴰ z (y ∷ insert before x l)
      rest (inl e) ih = Memᴰ.head e
      rest (inr m) ih = Memᴰ.tail (ih (inr m))

      later : (z ≡ x) ⊎ Memᴰ z (y ∷ l) → ((z ≡ x) ⊎ Memᴰ z l → Memᴰ z (insert before x l)) → Memᴰ z (y ∷ insert before x l)
      later (inl e) ih = Memᴰ.tail (ih (inl e))
      later (inr m) ih = rest (Memᴰ.cases_cons m) ih

      go : (b : Bool) → before x y ≡ b → (z ≡ x) ⊎ Memᴰ z (y ∷ l) → ((z ≡ x) ⊎ Memᴰ z l → Memᴰ z (insert before x l)) → Memᴰ z (insert before x (y ∷ l))
      go true e c ih = rw (e, insert) (all_of c)
      go false e c ih = rw (e, insert) (later c ih)

  insert_distinct : (x : ℕ) {l : List ℕ} → ¬ Memᴰ x l → Distinct l → Distinct (insert before x l)
  unfolding insert
  insert_distinct x n empty = fresh n empty
  insert_distinct x n (fresh {p = y} {l = l} f d) = go (before x y) refl (insert_distinct x (λ m. n (Memᴰ.tail m)) d)
    where
      apart : (y ≡ x) ⊎ Memᴰ y l → ⊥
      apart (inl e) = n (Memᴰ.head (sym e))
      apart (inr m) = f m

      go : (b : Bool) → before x y ≡ b → Distinct (insert before x l) → Distinct (insert before x (y ∷ l))
      go true e k = rw (e, insert) (fresh n (fresh f d))
      go false e k = rw (e, insert) (fresh (λ m. apart (insert_in x l y m)) k)

module _ (less : ℕ → ℕ → Bool) where
  pub sort_in : (l : List ℕ) (x : ℕ) → Memᴰ x (sort less l) → Memᴰ x l
  unfolding sort
  sort_in [] x m = m
  sort_in (y ∷ l) x m = go (insert_in _ y (sort less l) x m) (sort_in l x)
    where
      go : (x ≡ y) ⊎ Memᴰ x (sort less l) → (Memᴰ x (sort less l) → Memᴰ x l) → Memᴰ x (y ∷ l)
      go (inl e) ih = Memᴰ.head e
      go (inr k) ih = Memᴰ.tail (ih k)

  pub in_sort : (l : List ℕ) (x : ℕ) → Memᴰ x l → Memᴰ x (sort less l)
  unfolding sort
  in_sort [] x x3 = elim x3 [ ]
  in_sort (y ∷ l) x (Memᴰ.head e) = in_insert _ y (sort less l) x (inl e)
  in_sort (y ∷ l) x (Memᴰ.tail m) = in_insert _ y (sort less l) x (inr (in_sort l x m))

  pub sort_distinct : {l : List ℕ} → Distinct l → Distinct (sort less l)
  unfolding sort
  sort_distinct empty = empty
  sort_distinct (fresh {p = y} {l = l} f d) = insert_distinct _ y (λ m. f (sort_in l y m)) (sort_distinct d)

  -- no neighbour goes before the one in front of it
  abbrev pub Sorted : List ℕ → Type 0
  Sorted l = Linked (λ x y. less y x ≡ false) l

  module _ (asym : (x y : ℕ) → less x y ≡ true → less y x ≡ false) where
    -- y stays in front of a list into which x, which it goes before, is put
    put_behind : (x y : ℕ) (l : List ℕ) → less y x ≡ true → Sorted (y ∷ l) → Sorted (insert (λ a b. not (less b a)) x l) → Sorted (y ∷ insert (λ a b. not (less b a)) x l)
    unfolding insert
    put_behind x y [] e s k = linked (asym y x e) linked_one
    put_behind x y (z ∷ l) e (linked r s) k = go (less z x) refl k
      where
        go : (b : Bool) → less z x ≡ b → Sorted (insert (λ a b. not (less b a)) x (z ∷ l)) → Sorted (y ∷ insert (λ a b. not (less b a)) x (z ∷ l))
        go true h k = rw (h, insert) (linked r (rw (h, insert) at k))
        go false h k = rw (h, insert) (linked (asym y x e) (rw (h, insert) at k))

    insert_sorted : (x : ℕ) (l : List ℕ) → Sorted l → Sorted (insert (λ a b. not (less b a)) x l)
    unfolding insert
    insert_sorted x [] s = linked_one
    insert_sorted x (y ∷ l) s = go (less y x) refl (insert_sorted x l (rest s))
      where
        rest : {l : List ℕ} → Sorted (y ∷ l) → Sorted l
        rest linked_one = linked_nil
        rest (linked r s) = s

        go : (b : Bool) → less y x ≡ b → Sorted (insert (λ a b. not (less b a)) x l) → Sorted (insert (λ a b. not (less b a)) x (y ∷ l))
        go true e k = rw (e, insert) (put_behind x y l e s k)
        go false e k = rw (e, insert) (linked e s)

    pub sort_sorted : (l : List ℕ) → Sorted (sort less l)
    unfolding sort
    sort_sorted [] = linked_nil
    sort_sorted (x ∷ l) = insert_sorted x (sort less l) (sort_sorted l)

  -- a list in which each goes before the next is sorted already
  pub sort_id : {l : List ℕ} → ((x y : ℕ) → less x y ≡ true → less y x ≡ false) → Linked (λ x y. less x y ≡ true) l → sort less l ≡ l
  unfolding sort insert
  sort_id asym linked_nil = refl
  sort_id asym linked_one = refl
  sort_id asym (linked {x = x} {y = y} {l = l} r s) = rw (sort_id asym s) (rw (asym x y r, insert))
