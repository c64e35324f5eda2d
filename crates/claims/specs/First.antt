-- The order of nodes whose children all stand below them: externals by digest, then blocks, then internals by id.
-- Assumes nothing.
use Prim.Native.Nat.{ℕ, zero, suc, ◌+◌, ◌<◌, ◌≤◌}
use Rattle.std.specs.Prelude.{◌≡◌, Bool, ◌&&◌, ◌⊎◌, length, Some}
use Rattle.std.proofs.Math.Path.{refl}
use Rattle.std.proofs.Common.{◌∙◌, ap, inl, inr}
use Rattle.std.proofs.Math.Bool.{true, false}
use mathlib.Core.List.Memᴰ
use mathlib.Core.List.{List, [], ◌∷◌, ◌++◌, Memᴰ, append-nil, append_assoc}
use native.Mathlib.Omega.{arith}
use Rattle.record.specs.Lists.{run}
use Rattle.record.specs.Node.{is_external, is_block, is_internal, children}
use Rattle.record.specs.declared.Node.{Node}
use Rattle.record.proofs.Nodes.{classes, not_internal}
use Rattle.forest.specs.Graph.{at}
use Rattle.forest.specs.Lists.{has, keep, lowest}
use Rattle.forest.specs.Order.{ids, externals, blocks, ready, released, begun, order}
use Rattle.claims.specs.Paths.{HasChild}
use Rattle.claims.specs.Releases.{begun_in, in_begun}
use Rattle.claims.specs.Searches.{has_in, in_has, true_all, none_lowest, lowest_at}
use Rattle.claims.specs.Sorts.{run_in, in_run, run_snoc, keep_in, in_keep}

-- those of two lists that pass, one behind the other
pub keep_append : (t : ℕ → Bool) (a b : List ℕ) → keep t (a ++ b) ≡ keep t a ++ keep t b
unfolding keep
keep_append t [] b = refl
keep_append t (x ∷ a) b = go (t x) refl (keep_append t a b)
  where
    go : (c : Bool) → t x ≡ c → keep t (a ++ b) ≡ keep t a ++ keep t b → keep t (x ∷ a ++ b) ≡ keep t (x ∷ a) ++ keep t b
    go true e ih = rw (e, keep) (ap {B = List ℕ} (λ l. x ∷ l) ih)
    go false e ih = rw (e, keep) ih

module _ (g : List Node) (kids : (p c : ℕ) → HasChild g p c → c < p) where
  int : ℕ → Bool
  int p = is_internal (at g p)

  -- the order once the internals below k are released
  upto : ℕ → List ℕ
  upto k = begun g ++ keep int (run 0 k)

  -- what is below k is in it
  upto_has : (k x : ℕ) → x < k → k ≤ length g → has x (upto k) ≡ true
  unfolding upto int
  upto_has k x h l = in_has x (upto k) (go (classes (at g x)))
    where
      go : (is_external (at g x) ≡ true) ⊎ ((is_block (at g x) ≡ true) ⊎ (is_internal (at g x) ≡ true)) → Memᴰ x (begun g ++ keep int (run 0 k))
      go (inl e) = Memᴰ.append_left (keep int (run 0 k)) (in_begun g x (omega arith) (inl e))
      go (inr (inl e)) = Memᴰ.append_left (keep int (run 0 k)) (in_begun g x (omega arith) (inr e))
      go (inr (inr e)) = Memᴰ.append_right (begun g) (in_keep int (run 0 k) x (in_run 0 k x (omega arith) (omega arith)) e)

  -- an internal from k on is not in it
  upto_not : (k x : ℕ) → k ≤ x → int x ≡ true → has x (upto k) ≡ false
  unfolding upto int
  upto_not k x h e = go (has x (upto k)) refl
    where
      in_none : Memᴰ x (begun g) ⊎ Memᴰ x (keep int (run 0 k)) → ⊥
      in_none (inl m) = not_internal (at g x) (begun_in g x m).0 e
      in_none (inr m) = let (a, b) = run_in 0 k x (keep_in int (run 0 k) x m).0 in absurd (omega arith)

      go : (b : Bool) → has x (upto k) ≡ b → has x (upto k) ≡ false
      go true t = absurd (in_none (Memᴰ.append_cases (begun g) (has_in x (upto k) t)))
      go false t = t

  -- nothing below k is ready, and k is if it is internal
  ready_past : (k x : ℕ) → x < k → k ≤ length g → ready g (upto k) x ≡ false
  unfolding ready
  ready_past k x h l = rw (upto_has k x h l) (go (is_internal (at g x)))
    where
      go : (b : Bool) → (b && false) ≡ false
      go true = refl
      go false = refl

  ready_here : (k : ℕ) → k < length g → int k ≡ true → ready g (upto k) k ≡ true
  unfolding ready int
  ready_here k h e = rw (e, upto_not k k (omega arith) e) (true_all (λ c. has c (upto k)) (children (at g k)) (λ c m. let q = kids k c m in upto_has k c q (omega arith)))

  upto_next : (k : ℕ) → upto (suc k) ≡ upto k ++ keep int (k ∷ [])
  unfolding upto
  upto_next k = let z : 0 + k ≡ k = omega arith in rw (← run_snoc 0 k, keep_append int (run 0 k) ((0 + k) ∷ []), z, append_assoc)

  -- so what is released then are the internals from k on
  released_rest : (j m k : ℕ) → k + j ≡ length g → j ≤ m → released g m (upto k) ≡ keep int (run k j)
  unfolding released run ids keep
  released_rest zero zero k e h = refl
  released_rest zero (suc m) k e h = rw (none_lowest (ready g (upto k)) (ids g) (λ x n. let (p, q) = run_in 0 (length g) x n in ready_past k x (omega arith) (omega arith)), released)
  released_rest (suc j) zero k e h = absurd (omega arith)
  released_rest (suc j) (suc m) k e h = go (int k) refl (released_rest j m (suc k) (omega arith) (omega arith)) (released_rest j (suc m) (suc k) (omega arith) (omega arith))
    where
      go : (b : Bool) → int k ≡ b → released g m (upto (suc k)) ≡ keep int (run (suc k) j) → released g (suc m) (upto (suc k)) ≡ keep int (run (suc k) j) → released g (suc m) (upto k) ≡ keep int (k ∷ run (suc k) j)
      go true t one two =
          let f : lowest (ready g (upto k)) (ids g) ≡ Some k = lowest_at (ready g (upto k)) 0 (length g) k (λ x n. ready_past k x (omega arith) (omega arith)) (let z : 0 + k ≡ k = omega arith in rw z (ready_here k (omega arith) t)) (omega arith) in
          let s : upto (suc k) ≡ upto k ++ k ∷ [] = upto_next k ∙ rw (t, keep) in
          rw (f, released, t, keep, ← s) (ap {B = List ℕ} (λ l. k ∷ l) one)
      go false t one two =
          let s : upto (suc k) ≡ upto k = upto_next k ∙ rw (t, keep) (append-nil (upto k)) in
          rw (t, keep, ← s) two

  -- the order is externals, blocks, internals, each from the lowest on but the externals
  pub order_first : order g ≡ externals g ++ (blocks g ++ keep (λ p. is_internal (at g p)) (ids g))
  unfolding order ids upto int begun keep run
  order_first =
      let e : released g (length g) (upto 0) ≡ keep int (run 0 (length g)) = released_rest (length g) (length g) 0 (omega arith) (omega arith) in
      let z : upto 0 ≡ externals g ++ blocks g = append-nil (externals g ++ blocks g) in
      rw (rw z at e) (append_assoc (externals g) (blocks g) (keep int (run 0 (length g))))
