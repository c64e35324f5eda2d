-- Laws of mentions: how they are linked, and how many of them are still to be counted off.
-- Assumes nothing.
use Prim.Native.Nat.{ℕ, zero, suc, ◌+◌, ◌*◌, ◌-◌, ◌/◌, ◌%◌, ◌<◌, ◌≤◌}
use mathlib.Core.Path.{◌≡◌, refl, sym, ◌∙◌, ap}
use mathlib.Core.Bool.{Bool, true, false, not, ◌&&◌, ◌||◌, or_assoc, and-true, and-false, or-false}
use mathlib.Core.List.{List, [], ◌∷◌, ◌++◌}
use mathlib.Core.Logic.{◌≢◌}
use native.Mathlib.Omega.{arith}
use lib.Dec.{ltb, eqb}
use borrow.Author.Tests.{ltb-true, ltb-false, eqb-true, lt-ltb, le-ltb, eq-eqb, ne_eqb}
use lib.ListN.{length, take, get_or}
use lib.Seq.{take_all}
use Rattle.record.specs.Lists.{all}
use Rattle.record.specs.Node.{fields, is_internal, children}
use Rattle.record.specs.declared.Node.{Node}
use Rattle.record.proofs.Basics.{clash}
use Rattle.forest.specs.Graph.{at}
use Rattle.forest.specs.Lists.{has, keep}
use Rattle.forest.specs.Order.{ready}
use Rattle.dense_order.specs.Mentions.{prior, one, namer, names, still, left}

-- FINDING THE MENTIONS ----------------------------------------------------------------------------

module _ (g : List Node) (c : ℕ) where
  pub prior_le : (k : ℕ) → prior g c k ≤ k
  unfolding prior
  prior_le zero = omega arith
  prior_le (suc k) = go (names g c k) refl (prior_le k)
    where
      go : (b : Bool) → names g c k ≡ b → prior g c k ≤ k → prior g c (suc k) ≤ suc k
      go true e h = rw (e, prior) (omega arith)
      go false e h = rw (e, prior) (omega arith)

  -- what is found names the child
  pub prior_names : (k e : ℕ) → prior g c k ≡ suc e → names g c e ≡ true
  unfolding prior
  prior_names zero e h = absurd (omega arith)
  prior_names (suc k) e h = go (names g c k) refl (prior_names k e)
    where
      go : (b : Bool) → names g c k ≡ b → (prior g c k ≡ suc e → names g c e ≡ true) → names g c e ≡ true
      go true q ih = let z : suc k ≡ suc e = rw (q, prior) at h in let y : k ≡ e = omega arith in rw (sym y) q
      go false q ih = ih (rw (q, prior) at h)

  -- and is found again from there
  pub prior_prior : (k : ℕ) → prior g c (prior g c k) ≡ prior g c k
  unfolding prior
  prior_prior zero = refl
  prior_prior (suc k) = go (names g c k) refl (prior_prior k)
    where
      go : (b : Bool) → names g c k ≡ b → prior g c (prior g c k) ≡ prior g c k → prior g c (prior g c (suc k)) ≡ prior g c (suc k)
      go true q ih = rw (q, prior) (rw (q, prior))
      go false q ih = rw (q, prior) ih

  -- a number that is found again is 0 or 1 more than a mention of the child
  pub found_names : (e : ℕ) → prior g c (suc e) ≡ suc e → names g c e ≡ true
  found_names e h = prior_names (suc e) e h

  -- nothing is left out between
  pub still_prior : (k p : ℕ) → still g c k p ≡ still g c (prior g c k) p
  unfolding still prior one
  still_prior zero p = refl
  still_prior (suc k) p = go (names g c k) refl (still_prior k p)
    where
      go : (b : Bool) → names g c k ≡ b → still g c k p ≡ still g c (prior g c k) p → still g c (suc k) p ≡ still g c (prior g c (suc k)) p
      go true q ih = rw (q, prior) (rw q)
      go false q ih = rw (q, prior) (omega arith)

  -- one mention more
  pub still_own : (e : ℕ) → names g c e ≡ true → still g c (suc e) (e / fields) ≡ suc (still g c e (e / fields))
  unfolding still one
  still_own e h = rw (h, eq-eqb (e / fields) (e / fields) refl) (omega arith)

  pub still_other : (e p : ℕ) → names g c e ≡ true → e / fields ≢ p → still g c (suc e) p ≡ still g c e p
  unfolding still one
  still_other e p h d = rw (h, ne_eqb (e / fields) p d) (omega arith)

-- COUNTING THEM -----------------------------------------------------------------------------------

-- how often c is in the list
unfoldable pub times : ℕ → List ℕ → ℕ
times c [] = 0
times c (x ∷ l) = one (eqb x c) + times c l

-- one element more of the list
times_take : (c j : ℕ) (l : List ℕ) → times c (take (suc j) l) ≡ one (ltb j (length l) && eqb (get_or l j 0) c) + times c (take j l)
unfolding times one
times_take c zero [] = refl
times_take c (suc j) [] = rw (le-ltb (suc j) 0 (omega arith))
times_take c zero (x ∷ l) = rw (lt-ltb 0 (suc (length l)) (omega arith))
times_take c (suc j) (x ∷ l) = go (ltb j (length l)) refl (times_take c j l)
  where
    go : (b : Bool) → ltb j (length l) ≡ b → times c (take (suc j) l) ≡ one (ltb j (length l) && eqb (get_or l j 0) c) + times c (take j l)
        → one (eqb x c) + times c (take (suc j) l) ≡ one (ltb (suc j) (suc (length l)) && eqb (get_or l j 0) c) + (one (eqb x c) + times c (take j l))
    go true e ih = let z : j < length l = ltb-true _ _ e in rw (ih, e, lt-ltb (suc j) (suc (length l)) (omega arith)) (omega arith)
    go false e ih = let z : length l ≤ j = ltb-false _ _ e in rw (ih, e, le-ltb (suc j) (suc (length l)) (omega arith)) (omega arith)

module _ (g : List Node) (c p : ℕ) where
  -- no mention before p's first is p's
  still_before : (k : ℕ) → k ≤ fields * p → still g c k p ≡ 0
  unfolding still one
  still_before zero h = refl
  still_before (suc k) h = let z = still_before k (omega arith) in rw (ne_eqb (k / fields) p (λ e. omega arith), and-false (names g c k)) (omega arith)

  -- p's first j mentions
  still_own_some : (j : ℕ) → j ≤ fields → still g c (fields * p + j) p ≡ times c (take j (children (at g p)))
  unfolding still names namer times
  still_own_some zero h = let q : fields * p + 0 ≡ fields * p = omega arith in rw q (still_before (fields * p) (omega arith))
  still_own_some (suc j) h =
      let q : fields * p + suc j ≡ suc (fields * p + j) = omega arith in
      let d : (fields * p + j) / fields ≡ p = omega arith in
      let m : (fields * p + j) % fields ≡ j = omega arith in
      rw (q, d, m, eq-eqb p p refl, and-true (ltb j (length (children (at g p))) && eqb (get_or (children (at g p)) j 0) c), still_own_some j (omega arith)) (sym (times_take c j (children (at g p))))

  -- no mention behind p's last is p's
  still_past : (m : ℕ) → still g c (fields * p + fields + m) p ≡ still g c (fields * p + fields) p
  unfolding still one
  still_past zero = let q : fields * p + fields + 0 ≡ fields * p + fields = omega arith in rw q
  still_past (suc m) =
      let q : fields * p + fields + suc m ≡ suc (fields * p + fields + m) = omega arith in
      let z = still_past m in
      rw (q, ne_eqb ((fields * p + fields + m) / fields) p (λ e. omega arith), and-false (names g c (fields * p + fields + m))) (omega arith)

  -- so all mentions together count each time that p names c
  pub still_all : (n : ℕ) → p < n → length (children (at g p)) ≤ fields → still g c (fields * n) p ≡ times c (children (at g p))
  still_all n h l =
      let q : fields * n ≡ fields * p + fields + (fields * n - (fields * p + fields)) = omega arith in
      rw q (still_past (fields * n - (fields * p + fields)) ∙ (still_own_some fields (omega arith) ∙ ap (times c) (take_all fields (children (at g p)) l)))

-- SETTLING ----------------------------------------------------------------------------------------

pub has_snoc : (c q : ℕ) (d : List ℕ) → has c (d ++ q ∷ []) ≡ (has c d || eqb c q)
unfolding has
has_snoc c q [] = or-false (eqb c q)
has_snoc c q (x ∷ d) = rw (has_snoc c q d) (sym (or_assoc (eqb c x) (has c d) (eqb c q)))

-- a node that settles is counted off each time that it is named
kept_split : (q : ℕ) (d l : List ℕ) → has q d ≡ false → length (keep (λ c. not (has c d)) l) ≡ length (keep (λ c. not (has c (d ++ q ∷ []))) l) + times q l
unfolding keep times one
kept_split q d [] h = refl
kept_split q d (x ∷ l) h = go (has x d) refl (eqb x q) refl (kept_split q d l h)
  where
    go : (a : Bool) → has x d ≡ a → (b : Bool) → eqb x q ≡ b → length (keep (λ c. not (has c d)) l) ≡ length (keep (λ c. not (has c (d ++ q ∷ []))) l) + times q l
        → length (keep (λ c. not (has c d)) (x ∷ l)) ≡ length (keep (λ c. not (has c (d ++ q ∷ []))) (x ∷ l)) + (one (eqb x q) + times q l)
    go true e true f ih = absurd (clash (let z : x ≡ q = eqb-true x q f in let y : has q d ≡ true = rw (sym z) e in cc))
    go true e false f ih = rw (e, keep, has_snoc x q d, e, f, keep) (omega arith)
    go false e true f ih = rw (e, keep, has_snoc x q d, e, f, keep) (omega arith)
    go false e false f ih = rw (e, keep, has_snoc x q d, e, f, keep) (omega arith)

pub left_split : (g : List Node) (p q : ℕ) (d : List ℕ) → has q d ≡ false → left g p d ≡ left g p (d ++ q ∷ []) + times q (children (at g p))
unfolding left
left_split g p q d h = kept_split q d (children (at g p)) h

-- nothing is left exactly if all are settled
pub left_none : (d l : List ℕ) → all (λ c. has c d) l ≡ eqb (length (keep (λ c. not (has c d)) l)) 0
unfolding all keep
left_none d [] = refl
left_none d (x ∷ l) = go (has x d) refl (left_none d l)
  where
    go : (a : Bool) → has x d ≡ a → all (λ c. has c d) l ≡ eqb (length (keep (λ c. not (has c d)) l)) 0 → (has x d && all (λ c. has c d) l) ≡ eqb (length (keep (λ c. not (has c d)) (x ∷ l))) 0
    go true e ih = rw (e, keep) ih
    go false e ih = rw (e, keep) (sym (ne_eqb (suc (length (keep (λ c. not (has c d)) l))) 0 (λ z. omega arith)))

pub ready_left : (g : List Node) (o : List ℕ) (p : ℕ) → ready g o p ≡ (is_internal (at g p) && (not (has p o) && eqb (left g p o) 0))
unfolding ready left
ready_left g o p = rw (left_none o (children (at g p)))
