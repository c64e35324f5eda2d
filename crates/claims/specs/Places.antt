-- Places in an order, and the nodes that stand there.
-- Assumes nothing.
use Prim.Native.Nat.{ℕ, zero, suc, ◌<◌}
use Rattle.std.specs.Prelude.{◌≡◌, refl, Bool, ◌⊎◌, eqb, length, get_or, Option, Some, None}
use Rattle.std.proofs.Common.{sym, ◌∙◌, ap, inl, inr, arith, eqb-true, eq-eqb}
use Rattle.std.proofs.Math.Bool.{true}
use mathlib.Core.List.{List, [], ◌∷◌, map, Memᴰ}
use Rattle.record.specs.Lists.{same}
use Rattle.record.specs.Node.{children, renumber, same_node}
use Rattle.record.specs.declared.Node.{Node}
use Rattle.record.proofs.Basics.{clash, both_true, same_eq, same_refl}
use Rattle.forest.specs.Graph.{no_node, at}
use Rattle.forest.specs.Lists.{lowest}
use Rattle.forest.specs.Order.{place_in, arranged}
use Rattle.forest.specs.Walk.{or_none}
use Rattle.claims.specs.Distinct.{Distinct, empty, fresh}
use Rattle.claims.specs.Searches.{here_or_some, lowest_none, get_d_mem}

module _ {A : Type 0} where
  -- what the search found passes
  pub lowest_passes : (t : A → Bool) (l : List A) (i : ℕ) (d : A) → lowest t l ≡ Some i → t (get_or l i d) ≡ true
  unfolding lowest
  lowest_passes t [] i d e = absurd (clash (cc))
  lowest_passes t (x ∷ l) i d e = go (here_or_some (t x) (lowest t l) i e) (λ j. lowest_passes t l j d)
    where
      go : ((t x ≡ true) × (i ≡ 0)) ⊎ ((j : ℕ) × (lowest t l ≡ Some j) × (i ≡ suc j)) → ((j : ℕ) → lowest t l ≡ Some j → t (get_or l j d) ≡ true) → t (get_or (x ∷ l) i d) ≡ true
      go (inl (a, z)) ih = rw z a
      go (inr (j, a, z)) ih = rw z (ih j a)

-- what stands at the place of a number of the order is that number
pub place_at_lem : (o : List ℕ) (x : ℕ) → Memᴰ x o → get_or o (place_in o x) 0 ≡ x
unfolding place_in or_none
place_at_lem o x m = go (lowest (eqb x) o) refl
  where
    go : (r : Option ℕ) → lowest (eqb x) o ≡ r → get_or o (or_none r) 0 ≡ x
    go None e = absurd (clash (let z = lowest_none (eqb x) o e x m in let y = eq-eqb x x refl in cc))
    go (Some i) e = sym (eqb-true x _ (lowest_passes (eqb x) o i 0 e))

-- so two numbers of the order at one place are one
pub place_one : (o : List ℕ) (x y : ℕ) → Memᴰ x o → Memᴰ y o → place_in o x ≡ place_in o y → x ≡ y
place_one o x y a b e = sym (place_at_lem o x a) ∙ (ap (λ k. get_or o k 0) e ∙ place_at_lem o y b)

pub places_one : (o cs ds : List ℕ) → ((x : ℕ) → Memᴰ x cs → Memᴰ x o) → ((x : ℕ) → Memᴰ x ds → Memᴰ x o) → map (place_in o) cs ≡ map (place_in o) ds → cs ≡ ds
places_one o [] [] h k e = refl
places_one o [] (b ∷ ds) h k e = absurd (clash (cc))
places_one o (a ∷ cs) [] h k e = absurd (clash (cc))
places_one o (a ∷ cs) (b ∷ ds) h k e =
    let p : a ≡ b = place_one o a b (h a (Memᴰ.head refl)) (k b (Memᴰ.head refl)) cc in
    let q : cs ≡ ds = places_one o cs ds (λ x m. h x (Memᴰ.tail m)) (λ x m. k x (Memᴰ.tail m)) cc in
    cc

-- a list without repeats holds a number at one place
pub distinct_at : {o : List ℕ} → Distinct o → (p q : ℕ) → p < length o → q < length o → get_or o p 0 ≡ get_or o q 0 → p ≡ q
distinct_at empty p q h k e = absurd (omega arith)
distinct_at (fresh f d) zero zero h k e = refl
distinct_at (fresh {p = x} {l = l} f d) zero (suc q) h k e = absurd (f (rw e (get_d_mem l q 0 (omega arith))))
distinct_at (fresh {p = x} {l = l} f d) (suc p) zero h k e = absurd (f (rw (sym e) (get_d_mem l p 0 (omega arith))))
distinct_at (fresh f d) (suc p) (suc q) h k e = ap suc (distinct_at d p q (omega arith) (omega arith) e)

-- the node at a place of the arranged forest
pub at_arranged : (g : List Node) (o : List ℕ) (p : ℕ) → p < length o → at (arranged g o) p ≡ renumber (place_in o) (at g (get_or o p 0))
unfolding at arranged
at_arranged g o p h = go o p h
  where
    go : (l : List ℕ) (k : ℕ) → k < length l → get_or (map (λ x. renumber (place_in o) (get_or g x no_node)) l) k no_node ≡ renumber (place_in o) (get_or g (get_or l k 0) no_node)
    go [] k h = absurd (omega arith)
    go (x ∷ l) zero h = refl
    go (x ∷ l) (suc k) h = go l k (omega arith)

-- EQUAL NODES -------------------------------------------------------------------------------------

pub same_node_lem : (m n : Node) → same_node m n ≡ true → (m.kind ≡ n.kind) × (m.digest ≡ n.digest) × (children m ≡ children n)
unfolding same_node
same_node_lem m n e =
    let (a, bc) = both_true (eqb m.kind n.kind) _ e in
    let (b, c) = both_true (same m.digest n.digest) _ bc in
    (eqb-true _ _ a, same_eq _ _ b, same_eq _ _ c)

pub node_same : (m n : Node) → m.kind ≡ n.kind → m.digest ≡ n.digest → children m ≡ children n → same_node m n ≡ true
unfolding same_node
node_same m n a b c = rw (c, a, b, eq-eqb n.kind n.kind refl, same_refl n.digest, same_refl (children n))
