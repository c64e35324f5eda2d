-- Merged nodes in the order in which they were appended: children first, no two equal, and all of them in the canonical order.
-- Assumes nothing.
use Rattle.std.specs.Prelude.{ℕ, ◌<◌, ◌≤◌, ◌≡◌, refl, true, false, ◌⊎◌, length, None}
use Rattle.std.proofs.Common.{sym, ◌∙◌, ap, inl, inr, arith, length-append}
use mathlib.Core.List.Memᴰ
use mathlib.Core.List.{List, [], ◌∷◌, ◌++◌, Memᴰ}
use Rattle.std.proofs.Math.Decide.{dec_lt, ℕ_discrete}
use Rattle.std.proofs.lemmas.List.{length-map}
use Rattle.std.proofs.Math.ListN.{get_or-append}
use Rattle.std.proofs.Math.Seq.{get_or-append_seam}
use Rattle.record.specs.Node.{is_external, children, same_node}
use Rattle.record.specs.declared.Node.{Node}
use Rattle.record.proofs.Basics.{clash}
use Rattle.record.proofs.Nodes.{not_internal, kind_zero}
use Rattle.forest.specs.Graph.{no_node, at}
use Rattle.forest.specs.Lent.{first}
use Rattle.forest.specs.Order.{order, arranged}
use Rattle.forest.specs.Validate.{node_faults}
use Rattle.forest.specs.Walk.{State, start, going, walk}
use Rattle.claims.specs.Children.{no_child_out, parent_below, Bare}
use Rattle.claims.specs.Distinct.{pigeonhole}
use Rattle.claims.specs.Externals.{repeat_none}
use Rattle.claims.specs.Passing.{result_passes}
use Rattle.claims.specs.Paths.{HasChild, Steps, one, more, Orderly}
use Rattle.claims.specs.Places.{node_same}
use Rattle.claims.specs.Ranges.{Bounded, step_below}
use Rattle.claims.specs.Releases.{externals_in, externals_distinct, order_all}
use Rattle.claims.specs.Searches.{has_in, get_d_mem}
use Rattle.claims.specs.Sound.{Built, built_nil, built, walk_sound}
use Rattle.claims.specs.WalkInduction.{walk_ind}
use Rattle.claims.specs.Walks.{next_step, positions, finish_positions}

-- PLACES IN A LIST WITH ONE MORE --------------------------------------------------------------

pub at_last : (ms : List Node) (n : Node) → at (ms ++ n ∷ []) (length ms) ≡ n
unfolding at
at_last ms n = get_or-append_seam ms n [] no_node

pub at_before : (ms : List Node) (n : Node) (p : ℕ) → p < length ms → at (ms ++ n ∷ []) p ≡ at ms p
unfolding at
at_before ms n p h = get_or-append ms (n ∷ []) no_node p h

at_in : (l : List Node) (p : ℕ) → p < length l → Memᴰ (at l p) l
unfolding at
at_in l p h = get_d_mem l p no_node h

-- p is before the last place, or the last, or behind it
pub data Where (k p : ℕ) : Type 0 where
  earlier : p < k → Where k p
  equal : p ≡ k → Where k p
  behind : k < p → Where k p

pub where_is : (k p : ℕ) → Where k p
where_is k p = go (dec_lt p k) (ℕ_discrete p k)
  where
    go : Dec (p < k) → Dec (p ≡ k) → Where k p
    go (yes h) e = earlier h
    go (no h) (yes e) = equal e
    go (no h) (no e) = behind (omega arith)

-- each merged node has its children below it
pub built_kids : {l : List Node} → Built l → (p c : ℕ) → HasChild l p c → c < p
built_kids built_nil p c k = absurd (no_child_out [] p c (omega arith) k)
built_kids (built ms n e b h d) p c k = go (where_is (length ms) p) (built_kids b p c) (rw e at k)
  where
    go : Where (length ms) p → (HasChild ms p c → c < p) → HasChild (ms ++ n ∷ []) p c → c < p
    go (earlier u) ih k = ih (rw (at_before ms n p u) at k)
    go (equal u) ih k = rw u (h c (rw (u, at_last ms n) at k))
    go (behind u) ih k = absurd (no_child_out (ms ++ n ∷ []) p c (let q = length-append ms (n ∷ []) in omega arith) k)

-- no merged node is like an earlier one
pub built_apart : {l : List Node} → Built l → (p q : ℕ) → p < q → q < length l → same_node (at l q) (at l p) ≡ false
built_apart built_nil p q h b = absurd (omega arith)
built_apart (built ms n e bs k d) p q h b = rw e (go (where_is (length ms) q) (built_apart bs p q h))
  where
    go : Where (length ms) q → (q < length ms → same_node (at ms q) (at ms p) ≡ false) → same_node (at (ms ++ n ∷ []) q) (at (ms ++ n ∷ []) p) ≡ false
    go (earlier u) ih = rw (at_before ms n q u, at_before ms n p (omega arith)) (ih u)
    go (equal u) ih = rw (u, at_last ms n, at_before ms n p (omega arith)) (d (at ms p) (at_in ms p (omega arith)))
    go (behind u) ih = absurd (let x = length-append ms (n ∷ []) in let y = ap length e in omega arith)

kid_steps : {l : List Node} → Built l → {p q : ℕ} → Steps (HasChild l) p q → q < p
kid_steps b (one k) = built_kids b _ _ k
kid_steps b (more s k) = let x = kid_steps b s in let y = built_kids b _ _ k in omega arith

pub no_kids : (l : List ℕ) → ((c : ℕ) → ¬ Memᴰ c l) → l ≡ []
no_kids [] h = refl
no_kids (x ∷ l) h = absurd (h x (Memᴰ.head refl))

module _ (l : List Node) (b : Built l) (bare : Bare l) where
  external_kids : (p : ℕ) → is_external (at l p) ≡ true → children (at l p) ≡ []
  unfolding Bare
  external_kids p e = no_kids (children (at l p)) (λ c k. not_internal (at l p) (inl e) (bare p c k))

  -- two externals of one digest are alike
  alike : (p q : ℕ) → is_external (at l p) ≡ true → is_external (at l q) ≡ true → (at l p).digest ≡ (at l q).digest → same_node (at l p) (at l q) ≡ true
  alike p q x y e = node_same _ _ (kind_zero (at l p) x ∙ sym (kind_zero (at l q) y)) e (external_kids p x ∙ sym (external_kids q y))

  pub built_orderly : Orderly l
  built_orderly = record {
    differ = λ p q u v x y e. one_of p q u v x y e (where_is q p);
    inside = λ p c k. let q = built_kids b p c k in let h = parent_below l p c k in omega arith;
    acyclic = λ p s. let h = kid_steps b s in omega arith;
  }
    where
      one_of : (p q : ℕ) → p < length l → q < length l → is_external (at l p) ≡ true → is_external (at l q) ≡ true → (at l p).digest ≡ (at l q).digest → Where q p → p ≡ q
      one_of p q u v x y e (earlier h) = absurd (clash (let z = built_apart b p q h v in let w = alike q p y x (sym e) in cc))
      one_of p q u v x y e (equal h) = h
      one_of p q u v x y e (behind h) = absurd (clash (let z = built_apart b q p h u in let w = alike p q x y e in cc))

  -- all of them are in the order
  pub built_in : (p : ℕ) → p < length l → Memᴰ p (order l)
  built_in p h = has_in p (order l) (order_all l built_orderly.inside built_orderly.acyclic p h)

  pub built_passes : first (node_faults (arranged l (order l))) ≡ None
  built_passes = result_passes l bare (repeat_none l _ (externals_distinct l) (λ p q m n e. let (x, u) = externals_in l p m in let (y, v) = externals_in l q n in built_orderly.differ p q u v x y e))

module _ (n : ℕ) (g : List Node) (roots : List ℕ) (w : Bounded n g roots) where
  finished_below : (limit : ℕ) (t : State) → walk g limit roots ≡ going t → (x : ℕ) → Memᴰ x (positions t.done) → x < n
  unfolding start
  finished_below limit t e =
      walk_ind g
      (λ path p s u. p < n → ((x : ℕ) → Memᴰ x (positions s.done) → x < n) → (x : ℕ) → Memᴰ x (positions u.done) → x < n)
      (λ path ps s u. ((c : ℕ) → Memᴰ c ps → c < n) → ((x : ℕ) → Memᴰ x (positions s.done) → x < n) → (x : ℕ) → Memᴰ x (positions u.done) → x < n)
      (λ path p s i q h b. b)
      (λ path s h b. b)
      (λ path p ps s u v a c h b. c (λ x m. h x (Memᴰ.tail m)) (a (h p (Memᴰ.head refl)) b))
      (λ path p s u f q a h b x m. split p u h (a (λ c k. step_below n g roots w p c (next_step g p c k)) b) x (Memᴰ.cases_cons (rw finish_positions at m)))
      limit roots t e w.starts (λ x m. absurd (Memᴰ.not-nil m))
    where
      split : (p : ℕ) (u : State) → p < n → ((x : ℕ) → Memᴰ x (positions u.done) → x < n) → (x : ℕ) → (x ≡ p) ⊎ Memᴰ x (positions u.done) → x < n
      split p u h b x (inl q) = rw q h
      split p u h b x (inr m) = b x m

  pub walk_few : (limit : ℕ) (t : State) → walk g limit roots ≡ going t → length t.merged ≤ n
  walk_few limit t e =
      let s = walk_sound g limit roots t e in
      let a = s.few in
      let b : length (positions t.done) ≤ n = pigeonhole n s.single (finished_below limit t e) in
      let c : length (positions t.done) ≡ length t.done = length-map t.done _ in
      omega arith
