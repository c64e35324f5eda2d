-- Laws of linking the mentions of a node, each to the one before it that names the same child.
-- Assumes nothing.
use Prim.Native.Nat.{ℕ, zero, suc, ◌+◌, ◌*◌, ◌-◌, ◌/◌, ◌%◌, ◌<◌, ◌≤◌}
use mathlib.Core.Path.{◌≡◌, refl, sym, ◌∙◌, subst}
use mathlib.Core.Bool.{Bool, true, false}
use mathlib.Core.List.{List}
use mathlib.Core.Logic.{◌≢◌}
use native.Mathlib.Omega.{arith}
use native.Mathlib.Decide.{ℕ_discrete}
use lib.Dec.{ltb}
use borrow.Author.Tests.{eqb-true, lt-ltb, le-ltb, eq-eqb}
use lib.ListN.{length, take, get_or, set, length-take, length-set}
use lib.Seq.{get_or-set_same, get_or-set_other}
use Rattle.record.specs.Node.{fields, size, node_at, nodes_of, children}
use Rattle.record.specs.declared.Node.{Node}
use Rattle.record.proofs.Basics.{clash, both_true}
use Rattle.record.proofs.Nodes.{full_read}
use Rattle.forest.specs.Graph.{at}
use Rattle.forest.specs.Lent.{most}
use Rattle.claims.specs.Searches.{get_d_mem}
use Rattle.sorting.proofs.Uses.{at_node_lem}
use Rattle.dense_order.specs.Mentions.{prior, namer, names}
use Rattle.dense_order.specs.State.{Linked, Chained, Fair, Links}

-- WHAT ONE MENTION CHANGES ------------------------------------------------------------------------

names_one : (g : List Node) (c d e : ℕ) → names g c e ≡ true → names g d e ≡ true → d ≡ c
unfolding names
names_one g c d e h k =
    let (a, b) = both_true (ltb (e % fields) (length (namer g e))) _ h in
    let (x, y) = both_true (ltb (e % fields) (length (namer g e))) _ k in
    let p : get_or (namer g e) (e % fields) 0 ≡ c = eqb-true _ _ b in
    let q : get_or (namer g e) (e % fields) 0 ≡ d = eqb-true _ _ y in
    sym q ∙ p

names_other : (g : List Node) (c d e : ℕ) → names g c e ≡ true → d ≢ c → names g d e ≡ false
names_other g c d e h n = go (names g d e) refl
  where
    go : (b : Bool) → names g d e ≡ b → names g d e ≡ false
    go true k = absurd (n (names_one g c d e h k))
    go false k = k

prior_here : (g : List Node) (c e : ℕ) → names g c e ≡ true → prior g c (suc e) ≡ suc e
unfolding prior
prior_here g c e h = rw (h, prior)

prior_there : (g : List Node) (c e : ℕ) → names g c e ≡ false → prior g c (suc e) ≡ prior g c e
unfolding prior
prior_there g c e h = rw (h, prior)

-- a mention that names nothing
linked_skip : (g : List Node) (hs ls : List ℕ) (n k m : ℕ) → ((e c : ℕ) → k ≤ e → e < k + m → names g c e ≡ false) → Linked g hs ls n k → Linked g hs ls n (k + m)
linked_skip g hs ls n k zero h l = let z : k + 0 ≡ k = omega arith in rw z l
linked_skip g hs ls n k (suc m) h l =
    let z : k + suc m ≡ suc (k + m) = omega arith in
    let before = linked_skip g hs ls n k m (λ e c a b. h e c a (omega arith)) l in
    rw z
    (record {
      heads = λ c q. before.heads c q ∙ sym (prior_there g c (k + m) (h (k + m) c (omega arith) (omega arith)));
      links = λ c e q f. before.links c e (earlier c e q f (ℕ_discrete e (k + m))) f;
    })
  where
    earlier : (c e : ℕ) → e < suc (k + m) → names g c e ≡ true → Dec (e ≡ k + m) → e < k + m
    earlier c e q f (yes p) = absurd (clash (let y = h e c (omega arith) (omega arith) in cc))
    earlier c e q f (no p) = omega arith

-- mention e names c: it is linked to the one before it, and c leads to it
module _ (g : List Node) (hs ls : List ℕ) (n e c : ℕ) (h : c < n) (i : length hs ≡ n) (r : e < length ls) (names-c : names g c e ≡ true) (l : Linked g hs ls n e) where
  linked_suc : Linked g (set hs c (e + 1)) (set ls e (get_or hs c 0)) n (suc e)
  linked_suc = record { heads = λ d q. head d q (ℕ_discrete d c); links = λ d f q m. link d f q m (ℕ_discrete f e) }
    where
      head : (d : ℕ) → d < n → Dec (d ≡ c) → get_or (set hs c (e + 1)) d 0 ≡ prior g d (suc e)
      head d q (yes p) = let z : e + 1 ≡ suc e = omega arith in rw p (get_or-set_same hs c (e + 1) 0 (omega arith) ∙ (z ∙ sym (prior_here g c e names-c)))
      head d q (no p) = get_or-set_other hs c d (e + 1) 0 p ∙ (l.heads d q ∙ sym (prior_there g d e (names_other g c d e names-c p)))

      link : (d f : ℕ) → f < suc e → names g d f ≡ true → Dec (f ≡ e) → get_or (set ls e (get_or hs c 0)) f 0 ≡ prior g d f
      link d f q m (yes p) = let z : d ≡ c = names_one g c d e names-c (rw p at m) in rw (p, z) (get_or-set_same ls e (get_or hs c 0) 0 r ∙ l.heads c h)
      link d f q m (no p) = get_or-set_other ls e f (get_or hs c 0) 0 p ∙ l.links d f (omega arith) m

  pub linked_next : Linked g (set hs c (e + 1)) (set ls e (get_or hs c 0)) n (e + 1)
  linked_next = let z : suc e ≡ e + 1 = omega arith in subst (λ (k : ℕ). Linked g (set hs c (e + 1)) (set ls e (get_or hs c 0)) n k) z linked_suc

-- ALL MENTIONS OF A NODE --------------------------------------------------------------------------

-- the first j mentions of p are linked
pub record Chaining (s hs ls : List ℕ) (n p j : ℕ) : Type 0 where
  pub heads_long : length hs ≡ n
  pub links_long : fields * n ≤ length ls
  pub upto : j ≤ (node_at s p).count
  pub linked : Linked (nodes_of s) hs ls n (fields * p + j)

module _ {s : List ℕ} {n p : ℕ} (f : Fair s n) (h : p < n) where
  pub node_is : at (nodes_of s) p ≡ node_at s p
  node_is = at_node_lem s p (let z = f.counted in omega arith)

  pub count_is : length (children (at (nodes_of s) p)) ≡ (node_at s p).count
  unfolding children
  count_is = rw node_is (let z = f.fit p h in let y = (full_read s p).kids_long in omega (arith, length-take (node_at s p).count (node_at s p).kids))

  -- child field j is a child, and mention fields * p + j names it
  module _ (j : ℕ) (k : j < (node_at s p).count) where
    pub field_child : get_or (children (at (nodes_of s) p)) j 0 ≡ get_or (take (node_at s p).count (node_at s p).kids) j 0
    unfolding children
    field_child = rw node_is

    pub field_inside : get_or (take (node_at s p).count (node_at s p).kids) j 0 < n
    field_inside = rw (sym field_child) (f.inside p _ (get_d_mem (children (at (nodes_of s) p)) j 0 (let z = count_is in omega arith)))

    field_named : names (nodes_of s) (get_or (take (node_at s p).count (node_at s p).kids) j 0) (fields * p + j) ≡ true
    unfolding names namer
    field_named =
        let few = f.fit p h in
        let d : (fields * p + j) / fields ≡ p = omega arith in
        let m : (fields * p + j) % fields ≡ j = omega arith in
        rw (d, m, lt-ltb j (length (children (at (nodes_of s) p))) (let z = count_is in omega arith), field_child, eq-eqb (get_or (take (node_at s p).count (node_at s p).kids) j 0) (get_or (take (node_at s p).count (node_at s p).kids) j 0) refl)

  pub chaining_start : {hs ls : List ℕ} → Chained s hs ls n p → Chaining s hs ls n p 0
  chaining_start c = record { heads_long = c.heads_long; links_long = c.links_long; upto = omega arith; linked = let z : fields * p + 0 ≡ fields * p = omega arith in rw z c.linked }

  pub chaining_step : {hs ls : List ℕ} {j : ℕ} → Chaining s hs ls n p j → j < (node_at s p).count
      → Chaining s (set hs (get_or (take (node_at s p).count (node_at s p).kids) j 0) (fields * p + j + 1)) (set ls (fields * p + j) (get_or hs (get_or (take (node_at s p).count (node_at s p).kids) j 0) 0)) n p (j + 1)
  chaining_step {hs} {ls} {j} c k =
      let few = f.fit p h in
      let r : fields * p + j < length ls = (let z = c.links_long in omega arith) in
      record {
        heads_long = simp length-set c.heads_long;
        links_long = simp length-set c.links_long;
        upto = omega arith;
        linked = let z : fields * p + (j + 1) ≡ fields * p + j + 1 = omega arith in rw z (linked_next (nodes_of s) hs ls n (fields * p + j) _ (field_inside j k) c.heads_long r (field_named j k) c.linked);
      }

  pub chaining_end : {hs ls : List ℕ} {j : ℕ} → Chaining s hs ls n p j → (node_at s p).count ≤ j → Links s hs ls n p (node_at s p).count
  unfolding names namer
  chaining_end {hs} {ls} {j} c k =
      let few = f.fit p h in
      let u = c.upto in
      let z : fields * (p + 1) ≡ fields * p + j + (fields - j) = omega arith in
      record {
        count = refl;
        chained = record {
          fair = f;
          heads_long = c.heads_long;
          links_long = c.links_long;
          linked = rw z (linked_skip (nodes_of s) hs ls n (fields * p + j) (fields - j) (λ e d a b. unnamed e d a b) c.linked);
        };
      }
    where
      unnamed : (e d : ℕ) → fields * p + j ≤ e → e < fields * p + j + (fields - j) → names (nodes_of s) d e ≡ false
      unnamed e d a b =
          let few = f.fit p h in
          let u = c.upto in
          let q : e / fields ≡ p = omega arith in
          let l : length (children (at (nodes_of s) (e / fields))) ≤ e % fields = rw q (let z = count_is in omega arith) in
          rw (le-ltb (e % fields) (length (children (at (nodes_of s) (e / fields)))) l)

-- the record of a node of the forest is there
pub record_inside : {s : List ℕ} {n p : ℕ} → Fair s n → p < n → size * p + size ≤ length s
record_inside f h = let z = f.counted in omega arith

-- THE NODE THAT WAS READ --------------------------------------------------------------------------

-- where child field j of p leads, and what is there of the heads and the links
pub record Field (n p j c heads links : ℕ) : Type 0 where
  pub few : n ≤ most
  pub node : p < n
  pub narrow : j < fields
  pub child : c < heads
  pub link : fields * p + j < links

module _ {s hs ls : List ℕ} {n p : ℕ} {node : Node} (a : Fair s n) (h : p < n) (e : node ≡ node_at s p) {j : ℕ} (c : Chaining s hs ls n p j) where
  pub kids_long : length (take node.count node.kids) ≡ node.count
  kids_long = rw e (let z = a.fit p h in let y = (full_read s p).kids_long in omega (arith, length-take (node_at s p).count (node_at s p).kids))

  pub field_is : j < length (take node.count node.kids) → Field n p j (get_or (take node.count node.kids) j 0) (length hs) (length ls)
  field_is k' =
      let k : j < node.count = (let z = kids_long in omega arith) in
      let q : j < (node_at s p).count = rw e at k in
      let u = a.fit p h in
      let i : get_or (take node.count node.kids) j 0 < n = rw e (field_inside a h j q) in
      record { few = a.few; node = h; narrow = omega arith; child = let y = c.heads_long in omega arith; link = let y = c.links_long in omega arith }

  pub field_linked : j < length (take node.count node.kids) → Chaining s (set hs (get_or (take node.count node.kids) j 0) (fields * p + j + 1)) (set ls (fields * p + j) (get_or hs (get_or (take node.count node.kids) j 0) 0)) n p (j + 1)
  field_linked k' =
      let k : j < node.count = (let z = kids_long in omega arith) in
      let q : j < (node_at s p).count = rw e at k in
      rw e (chaining_step a h c q)

  pub fields_linked : length (take node.count node.kids) ≤ j → Links s hs ls n p node.count
  fields_linked k' =
      let k : node.count ≤ j = (let z = kids_long in omega arith) in
      let q : (node_at s p).count ≤ j = rw e at k in
      rw e (chaining_end a h c q)
