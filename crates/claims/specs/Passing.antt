-- The nodes in canonical order pass Validate's tests.
-- Assumes nothing.
use Rattle.std.specs.Prelude.{ℕ, suc, ◌<◌, ◌≤◌, ◌≡◌, Bool, true, false, not, ◌&&◌, ◌⊎◌, leb, eqb, Some, None}
use Rattle.std.proofs.Math.Path.{refl, sym}
use Rattle.std.proofs.Common.{◌∙◌, inl, inr, arith}
use mathlib.Core.List.Memᴰ
use mathlib.Core.List.{List, [], ◌∷◌, ◌++◌, map, Memᴰ, append-nil, append_assoc}
use borrow.Author.Tests.{ltb-false, leb-false, eqb-false, le-ltb, lt-leb}
use Rattle.std.proofs.Math.ListN.{length, length-append}
use Rattle.record.specs.Node.{rank, class, is_external, is_block, is_internal, children, renumber}
use Rattle.record.specs.Order.{before}
use Rattle.record.specs.declared.Node.{Node}
use Rattle.record.proofs.Basics.{clash}
use Rattle.record.proofs.Nodes.{rank_external, rank_block, rank_internal, not_internal, child_from}
use Rattle.forest.specs.Graph.{at}
use Rattle.forest.specs.Lent.{when, naming, first}
use Rattle.forest.specs.Lists.{here_or, lowest}
use Rattle.forest.specs.Order.{lower, externals, blocks, released, begun, order, repeat, place_in, arranged}
use Rattle.forest.specs.Validate.{forward, fault, faults, node_faults}
use Rattle.forest.specs.Walk.{or_none}
use Rattle.claims.specs.Checks.{first_none, naming_none, when_none}
use Rattle.claims.specs.Children.{Bare}
use Rattle.claims.specs.Externals.{externals_strict}
use Rattle.claims.specs.Paths.{HasChild}
use Rattle.claims.specs.Releases.{Queue, idle, release, released_queue, ready_facts, externals_in, blocks_in, begun_in}
use Rattle.claims.specs.Searches.{last_of_none, none_last_of}
use Rattle.claims.specs.Sorts.{Linked, linked, linked_all, linked_append, linked_map}

-- q may follow p
pub record May (g : List Node) (p q : ℕ) : Type 0 where
  pub classed : rank (class (at g p)) ≤ rank (class (at g q))
  pub sorted : is_external (at g p) ≡ true → is_external (at g q) ≡ true → before (at g p).digest (at g q).digest ≡ true

-- each of the list has its children in front of it, in a or in the list
pub data Prior (g : List Node) : List ℕ → List ℕ → Type 0 where
  prior_nil : {a : List ℕ} → Prior g a []
  prior : {a : List ℕ} {p : ℕ} {l : List ℕ} → ((c : ℕ) → HasChild g p c → Memᴰ c a) → Prior g (a ++ p ∷ []) l → Prior g a (p ∷ l)

-- FAULTS --------------------------------------------------------------------------------------

neither : (a b c : Bool) → (b ≡ true → a ≡ true → c ≡ true) → (a && (b && not c)) ≡ false
neither false b c h = refl
neither true false c h = refl
neither true true true h = refl
neither true true false h = absurd (clash (let z = h refl refl in cc))

neither_back : (a b c : Bool) → (a && (b && not c)) ≡ false → b ≡ true → a ≡ true → c ≡ true
neither_back a b true e x y = refl
neither_back a b false e x y = absurd (clash (let z : (true && (true && not false)) ≡ false = rw (x, y) at e in cc))

fault_none : (i : ℕ) (n m : Node) → rank (class n) ≤ rank (class m) → (is_external n ≡ true → is_external m ≡ true → before n.digest m.digest ≡ true) → ((c : ℕ) → Memᴰ c (children m) → c < i) → fault i n m ≡ None
unfolding fault forward first when naming
fault_none i n m a b c =
    rw (le-ltb (rank (class m)) (rank (class n)) a, neither (is_external m) (is_external n) (before n.digest m.digest) b, none_last_of (leb i) (children m) (λ x k. lt-leb i x (c x k)))

pub none_fault : (i : ℕ) (n m : Node) → fault i n m ≡ None → (rank (class n) ≤ rank (class m)) × (is_external n ≡ true → is_external m ≡ true → before n.digest m.digest ≡ true) × ((c : ℕ) → Memᴰ c (children m) → c < i)
unfolding fault forward
none_fault i n m e =
    let (a, e1) = first_none _ _ e in
    let (b, e2) = first_none _ _ e1 in
    let (c, e3) = first_none _ _ e2 in
    (ltb-false _ _ (when_none _ _ a), neither_back (is_external m) (is_external n) (before n.digest m.digest) (when_none _ _ b), λ x k. leb-false i x (last_of_none (leb i) (children m) (naming_none _ _ c) x k))

-- PLACES --------------------------------------------------------------------------------------

found : (c : ℕ) (a l : List ℕ) → Memᴰ c a → (i : ℕ) × (lowest (eqb c) (a ++ l) ≡ Some i) × (i < length a)
unfolding lowest here_or
found c (x ∷ a) l m = go (eqb c x) refl (found c a l)
  where
    on : eqb c x ≡ false → (Memᴰ c a → (i : ℕ) × (lowest (eqb c) (a ++ l) ≡ Some i) × (i < length a)) → (c ≡ x) ⊎ Memᴰ c a → (i : ℕ) × (lowest (eqb c) (x ∷ a ++ l) ≡ Some i) × (i < suc (length a))
    on t ih (inl e) = absurd (eqb-false c x t e)
    on t ih (inr k) = let (i, e, h) = ih k in (suc i, rw (t, e), omega arith)

    go : (b : Bool) → eqb c x ≡ b → (Memᴰ c a → (i : ℕ) × (lowest (eqb c) (a ++ l) ≡ Some i) × (i < length a)) → (i : ℕ) × (lowest (eqb c) (x ∷ a ++ l) ≡ Some i) × (i < suc (length a))
    go true t ih = (0, rw t, omega arith)
    go false t ih = on t ih (Memᴰ.cases_cons m)
found c [] l m = absurd (Memᴰ.not-nil m)

pub place_lt : (c : ℕ) (a l : List ℕ) → Memᴰ c a → place_in (a ++ l) c < length a
unfolding place_in or_none
place_lt c a l m = let (i, e, h) = found c a l m in rw (e, place_in) h

-- THE RESULT PASSES ---------------------------------------------------------------------------

module _ (g : List Node) (o : List ℕ) where
  new : ℕ → Node
  new p = renumber (place_in o) (at g p)

  kids_before : (a l : List ℕ) (p : ℕ) → o ≡ a ++ l → ((c : ℕ) → HasChild g p c → Memᴰ c a) → (c : ℕ) → Memᴰ c (children (new p)) → c < length a
  unfolding new
  kids_before a l p e h c m = go (child_from (place_in o) (at g p) c m)
    where
      go : (x : ℕ) × HasChild g p x × (place_in o x ≡ c) → c < length a
      go (x, k, q) = rw (sym q, e) (place_lt x a l (h x k))

  faults_none : (a : List ℕ) (i x : ℕ) (l : List ℕ) → i ≡ length a → Prior g a l → Linked (May g) (x ∷ l) → o ≡ a ++ l → first (faults i (new x) (map new l)) ≡ None
  unfolding faults first new renumber class is_external
  faults_none a i x [] h p s e = refl
  faults_none a i x (y ∷ l) h (prior k p) (linked r s) e =
      rw fault_new (faults_none (a ++ y ∷ []) (suc i) y l (omega (arith, length-append a (y ∷ []))) p s (e ∙ sym (append_assoc a (y ∷ []) l)))
    where
      fault_new : fault i (new x) (new y) ≡ None
      fault_new = fault_none i (new x) (new y) r.classed r.sorted (λ c m. let q : c < length a = kids_before a (y ∷ l) y e k c m in omega arith)

  -- an order in which children come first and neighbours may follow each other gives nodes that pass
  passes : Prior g [] o → Linked (May g) o → first (node_faults (map new o)) ≡ None
  unfolding node_faults forward first naming
  passes p s = go o refl p s
    where
      go : (l : List ℕ) → o ≡ l → Prior g [] l → Linked (May g) l → first (node_faults (map new l)) ≡ None
      go [] e p s = refl
      go (x ∷ l) e (prior k p) s = rw (none_last_of (leb 0) (children (new x)) (λ c m. lt-leb 0 c (kids_before [] (x ∷ l) x e k c m))) (faults_none (x ∷ []) 1 x l refl p s e)

module _ (g : List Node) where
  prior_append : {a l : List ℕ} (m : List ℕ) → Prior g a l → Prior g (a ++ l) m → Prior g a (l ++ m)
  prior_append m prior_nil q = rw append-nil at q
  prior_append {a} m (prior {p = x} {l = l} k p) q = prior k (prior_append m p (rw append_assoc q))

  bare_prior : (a l : List ℕ) → ((x : ℕ) → Memᴰ x l → (c : ℕ) → ¬ HasChild g x c) → Prior g a l
  bare_prior a [] h = prior_nil
  bare_prior a (x ∷ l) h = prior (λ c k. absurd (h x (Memᴰ.head refl) c k)) (bare_prior (a ++ x ∷ []) l (λ y m. h y (Memᴰ.tail m)))

  queue_prior : {o l : List ℕ} → Queue g o l → Prior g o l
  queue_prior idle = prior_nil
  queue_prior (release {o = o} {p = p} r b q) = prior (ready_facts g o p r).2 (queue_prior q)

  queue_internal : {o l : List ℕ} → Queue g o l → (x : ℕ) → Memᴰ x l → is_internal (at g x) ≡ true
  queue_internal (idle {o = o}) x x8 = elim x8 [ ]
  queue_internal (release {o = o} {p = p} r b q) x (Memᴰ.head e) = rw e (ready_facts g o p r).0
  queue_internal (release r b q) x (Memᴰ.tail m) = queue_internal q x m

  order_prior : Bare g → Prior g [] (order g)
  unfolding order Bare
  order_prior bare = prior_append _ (bare_prior [] (begun g) (λ x m c k. not_internal (at g x) (begun_in g x m).0 (bare x c k))) (queue_prior (released_queue g (length g) (begun g)))

  -- a lower class may be followed by a higher one
  may_up : (x y : ℕ) → rank (class (at g x)) < rank (class (at g y)) → May g x y
  may_up x y h = record { classed = omega arith; sorted = λ a b. absurd (let u = rank_external (at g x) a in let v = rank_external (at g y) b in omega arith) }

  -- and a class that is not external by itself
  may_same : (x y : ℕ) → rank (class (at g x)) ≡ rank (class (at g y)) → 0 < rank (class (at g x)) → May g x y
  may_same x y e h = record { classed = omega arith; sorted = λ a b. absurd (let u = rank_external (at g x) a in omega arith) }

  order_linked : repeat g (externals g) ≡ None → Linked (May g) (order g)
  unfolding order begun lower
  order_linked e = linked_append (linked_append first_part second_part up) third_part up2
    where
      q : Queue g (begun g) (released g (length g) (begun g))
      q = released_queue g (length g) (begun g)

      first_part : Linked (May g) (externals g)
      first_part = linked_map (λ x y m n r. record { classed = let u = rank_external _ (externals_in g x m).0 in omega arith; sorted = λ a b. r }) (externals_strict g e)

      second_part : Linked (May g) (blocks g)
      second_part = linked_all (blocks g) (λ x y m n. let u = rank_block _ (blocks_in g x m).0 in let v = rank_block _ (blocks_in g y n).0 in may_same x y (omega arith) (omega arith))

      up : (x y : ℕ) → Memᴰ x (externals g) → Memᴰ y (blocks g) → May g x y
      up x y m n = let u = rank_external _ (externals_in g x m).0 in let v = rank_block _ (blocks_in g y n).0 in may_up x y (omega arith)

      third_part : Linked (May g) (released g (length g) (begun g))
      third_part = linked_all _ (λ x y m n. let u = rank_internal _ (queue_internal q x m) in let v = rank_internal _ (queue_internal q y n) in may_same x y (omega arith) (omega arith))

      low : (x : ℕ) → (is_external (at g x) ≡ true) ⊎ (is_block (at g x) ≡ true) → rank (class (at g x)) < 2
      low x (inl a) = let u = rank_external _ a in omega arith
      low x (inr a) = let u = rank_block _ a in omega arith

      up2 : (x y : ℕ) → Memᴰ x (begun g) → Memᴰ y (released g (length g) (begun g)) → May g x y
      up2 x y m n = let u = low x (begun_in g x m).0 in let v = rank_internal _ (queue_internal q y n) in may_up x y (omega arith)

  -- The result passes Validate
  pub result_passes : Bare g → repeat g (externals g) ≡ None → first (node_faults (arranged g (order g))) ≡ None
  unfolding arranged new
  result_passes bare e = passes g (order g) (order_prior bare) (order_linked e)
