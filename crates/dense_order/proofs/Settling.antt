-- Laws of settling an id: each mention of it is counted off, the latest first.
-- Assumes nothing.
use Prim.Native.Nat.{ℕ, zero, suc, ◌+◌, ◌*◌, ◌-◌, ◌/◌, ◌%◌, ◌<◌, ◌≤◌}
use mathlib.Core.Path.{◌≡◌, refl, sym, ◌∙◌, ap}
use mathlib.Core.Bool.{Bool, true, false}
use mathlib.Core.List.{List, [], ◌∷◌, ◌++◌, Memᴰ}
use mathlib.Core.Logic.{◌≢◌}
use native.Mathlib.Omega.{arith}
use lib.Dec.{ltb}
use borrow.Author.Tests.{ltb-true, eqb-true, eq-eqb, ne_eqb}
use lib.ListN.{length, take, get_or}
use Rattle.record.specs.Node.{fields, nodes_of, children}
use Rattle.record.specs.declared.Node.{Node}
use Rattle.record.proofs.Basics.{both_true}
use Rattle.record.proofs.Nodes.{length_nodes_of}
use Rattle.forest.specs.Graph.{at}
use Rattle.forest.specs.Lent.{most}
use Rattle.forest.specs.Lists.{has}
use Rattle.claims.specs.Children.{parent_below, Bare}
use Rattle.claims.specs.Distinct.{Distinct, empty, fresh}
use Rattle.claims.specs.Paths.{HasChild}
use Rattle.claims.specs.Searches.{has_in, get_d_mem}
use Rattle.dense_order.specs.Mentions.{prior, one, namer, names, still, left}
use Rattle.dense_order.specs.State.{Counts, Stands, Standing, Resolved}
use Rattle.dense_order.proofs.Counting.{counts_resolved}
use Rattle.dense_order.proofs.Linking.{prior_le, prior_prior, found_names, still_prior, still_own, still_other, times, still_all, left_split}

-- a mention that names c is made by a node that has c as a child
pub names_child : (g : List Node) (c e : ℕ) → names g c e ≡ true → HasChild g (e / fields) c
unfolding names namer
names_child g c e h =
    let (a, b) = both_true (ltb (e % fields) (length (children (at g (e / fields))))) _ h in
    let q : get_or (children (at g (e / fields))) (e % fields) 0 ≡ c = eqb-true _ _ b in
    rw (sym q) (get_d_mem (children (at g (e / fields))) (e % fields) 0 (ltb-true _ _ a))

-- what is in a list is there once or more
times_in : (c : ℕ) (l : List ℕ) → Memᴰ c l → 0 < times c l
unfolding times one
times_in c [] x' = elim x' [ ]
times_in c (x ∷ l) (Memᴰ.head e) = rw (eq-eqb x c (sym e)) (omega arith)
times_in c (x ∷ l) (Memᴰ.tail m) = let h = times_in c l m in omega arith

-- a count that is the same below n
counts_agree : (g : List Node) (cs rs : List ℕ) (n : ℕ) (o : List ℕ) (f f' : ℕ → ℕ) → ((p : ℕ) → p < n → f p ≡ f' p) → Counts g cs rs n o f → Counts g cs rs n o f'
counts_agree g cs rs n o f f' h c = record { long = c.long; counts = λ p k. c.counts p k ∙ h p k; tree = c.tree; members = λ p k. c.members p k ∙ rw (h p k) }

-- the mentions of q from x on are counted off
pub record Settling (s cs rs : List ℕ) (n : ℕ) (o d : List ℕ) (q x : ℕ) : Type 0 where
  pub reach : x ≤ fields * n
  pub found : prior (nodes_of s) q x ≡ x
  pub counts : Counts (nodes_of s) cs rs n o (λ p. left (nodes_of s) p (d ++ q ∷ []) + still (nodes_of s) q x p)

module _ {s hs ls cs₀ rs₀ : List ℕ} {n : ℕ} {o d : List ℕ} (q : ℕ) (a : Stands s hs ls cs₀ rs₀ n o d) (below : q < n) (open-still : has q d ≡ false) where
  waits : (p : ℕ) → p < n → left (nodes_of s) p d ≡ left (nodes_of s) p (d ++ q ∷ []) + still (nodes_of s) q (fields * n) p
  waits p h = left_split (nodes_of s) p q d open-still ∙ ap (λ k. left (nodes_of s) p (d ++ q ∷ []) + k) (sym (still_all (nodes_of s) q p n h (a.chained.fair.narrow p)))

  pub settling_start : Settling s cs₀ rs₀ n o d q (get_or hs q 0)
  settling_start =
      rw (a.chained.linked.heads q below)
      (record {
        reach = prior_le (nodes_of s) q (fields * n);
        found = prior_prior (nodes_of s) q (fields * n);
        counts = counts_agree _ _ _ _ _ _ _ (λ p h. waits p h ∙ ap (λ k. left (nodes_of s) p (d ++ q ∷ []) + k) (still_prior (nodes_of s) q (fields * n) p)) a.counts;
      })

  module _ {cs rs : List ℕ} {x : ℕ} (i : Settling s cs rs n o d q x) (more_left : 0 < x) where
    -- the mention that is counted off now
    pub here : names (nodes_of s) q (x - 1) ≡ true
    here = found_names (nodes_of s) q (x - 1) (let z : suc (x - 1) ≡ x = omega arith in rw z i.found)

    pub parent_few : (x - 1) / fields < n
    parent_few = let h = parent_below (nodes_of s) ((x - 1) / fields) q (names_child (nodes_of s) q (x - 1) here) in let k = length_nodes_of s in let c = a.chained.fair.counted in omega arith

    own : still (nodes_of s) q x ((x - 1) / fields) ≡ suc (still (nodes_of s) q (x - 1) ((x - 1) / fields))
    own = let z : x ≡ suc (x - 1) = omega arith in ap (λ k. still (nodes_of s) q k ((x - 1) / fields)) z ∙ still_own (nodes_of s) q (x - 1) here

    others : (j : ℕ) → j ≢ (x - 1) / fields → still (nodes_of s) q x j ≡ still (nodes_of s) q (x - 1) j
    others j h = let z : x ≡ suc (x - 1) = omega arith in ap (λ k. still (nodes_of s) q k j) z ∙ still_other (nodes_of s) q (x - 1) j here (λ e. h (sym e))

    pub count_some : 0 < get_or cs ((x - 1) / fields) 0
    count_some = let c = i.counts.counts ((x - 1) / fields) parent_few in let z = own in omega arith

    -- a parent that still waits is not in the order
    not_placed : has ((x - 1) / fields) o ≡ false
    unfolding Bare
    not_placed = go (has ((x - 1) / fields) o) refl
      where
        kid : HasChild (nodes_of s) ((x - 1) / fields) q
        kid = names_child (nodes_of s) q (x - 1) here

        go : (b : Bool) → has ((x - 1) / fields) o ≡ b → has ((x - 1) / fields) o ≡ false
        go false e = e
        go true e =
            absurd
            (let z = a.closed ((x - 1) / fields) (has_in _ o e) (a.chained.fair.bare ((x - 1) / fields) q kid) in
            let y = left_split (nodes_of s) ((x - 1) / fields) q d open-still in
            let v = times_in q _ kid in
            omega arith)

    -- the next mention is an earlier one
    link_is : get_or ls (x - 1) 0 ≡ prior (nodes_of s) q (x - 1)
    link_is = a.chained.linked.links q (x - 1) (let z = i.reach in omega arith) here

    pub settling_less : get_or ls (x - 1) 0 < x
    settling_less = let z = prior_le (nodes_of s) q (x - 1) in let y = link_is in omega arith

    pub settling_step : {cs' rs' : List ℕ} → length cs' ≡ length cs → Resolved cs cs' rs rs' (length cs) ((x - 1) / fields) → Settling s cs' rs' n o d q (get_or ls (x - 1) 0)
    unfolding Bare
    settling_step {cs'} {rs'} l r =
        let r' = rw i.counts.long at r in
        rw link_is
        (record {
          reach = let z = prior_le (nodes_of s) q (x - 1) in let y = i.reach in omega arith;
          found = prior_prior (nodes_of s) q (x - 1);
          counts =
              counts_agree _ _ _ _ _ _ _ (λ p h. ap (λ k. left (nodes_of s) p (d ++ q ∷ []) + k) (still_prior (nodes_of s) q (x - 1) p))
              (counts_resolved (nodes_of s) cs cs' rs rs' n o _ (λ p. left (nodes_of s) p (d ++ q ∷ []) + still (nodes_of s) q (x - 1) p) ((x - 1) / fields) parent_few i.counts l r'
              (a.chained.fair.bare ((x - 1) / fields) q (names_child (nodes_of s) q (x - 1) here)) not_placed (let z = own in omega arith) (λ j h. let z = others j h in omega arith));
        })

  pub settling_end : {cs rs : List ℕ} {x : ℕ} → Settling s cs rs n o d q x → x ≤ 0 → Stands s hs ls cs rs n o (d ++ q ∷ [])
  unfolding still
  settling_end {x = x} i h = record {
    chained = a.chained;
    distinct = a.distinct;
    below = a.below;
    closed = λ p m k. let z = a.closed p m k in let y = left_split (nodes_of s) p q d open-still in omega arith;
    counts = counts_agree _ _ _ _ _ _ _ (λ p k. let z : x ≡ 0 = omega arith in rw z (omega arith)) i.counts;
  }

-- THE NEXT TO BE SETTLED --------------------------------------------------------------------------

take_next : (l : List ℕ) (t : ℕ) → t < length l → take (t + 1) l ≡ take t l ++ get_or l t 0 ∷ []
take_next [] t h = absurd (omega arith)
take_next (x ∷ l) zero h = refl
take_next (x ∷ l) (suc t) h = let z : suc t + 1 ≡ suc (t + 1) = omega arith in rw z (ap {B = List ℕ} (λ k. x ∷ k) (take_next l t (omega arith)))

-- in a list without repeats, what stands at a place is not among those before it
not_before : {l : List ℕ} → Distinct l → (t : ℕ) → t < length l → has (get_or l t 0) (take t l) ≡ false
unfolding has
not_before empty t h = absurd (omega arith)
not_before (fresh f d) zero h = refl
not_before (fresh {p = x} {l = l} f d) (suc t) h = rw (ne_eqb (get_or l t 0) x (λ e. f (rw (sym e) (get_d_mem l t 0 (omega arith)))), not_before d t (omega arith))

-- the id at place t, whose mentions begin at a head
pub record Next (o hs : List ℕ) (n t : ℕ) : Type 0 where
  pub id_below : get_or o t 0 < n
  pub heads_long : length hs ≡ n
  pub few : n ≤ most
  pub unsettled : has (get_or o t 0) (take t o) ≡ false
  pub taken : take (t + 1) o ≡ take t o ++ get_or o t 0 ∷ []

pub next_is : {s o hs ls cs rs : List ℕ} {n t : ℕ} → Standing s o hs ls cs rs n t → t < length o → Next o hs n t
next_is {o = o} {t = t} a h = record {
  id_below = a.stands.below _ (get_d_mem o t 0 h);
  heads_long = a.stands.chained.heads_long;
  few = a.stands.chained.fair.few;
  unsettled = not_before a.stands.distinct t h;
  taken = take_next o t h;
}

pub settles : {s o hs ls cs₀ rs₀ cs rs : List ℕ} {n t x : ℕ} → Standing s o hs ls cs₀ rs₀ n t → t < length o → Settling s cs rs n o (take t o) (get_or o t 0) x → x ≤ 0 → Standing s o hs ls cs rs n (t + 1)
settles {o = o} {t = t} a h i z =
    let k = next_is a h in
    record {
      upto = omega arith;
      some = a.some;
      stands = rw k.taken (settling_end (get_or o t 0) a.stands k.id_below k.unsettled i z);
    }
