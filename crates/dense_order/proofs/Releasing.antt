-- Laws of releasing: the lowest member of the tree is the lowest ready id, and the order is complete when there is none.
-- Assumes nothing.
use Prim.Native.Nat.{ℕ, zero, suc, ◌+◌, ◌-◌, ◌<◌, ◌≤◌}
use mathlib.Core.Path.{◌≡◌, refl, sym, ◌∙◌}
use mathlib.Core.Bool.{Bool, true, false, not, ◌&&◌, and-false}
use mathlib.Core.List.Memᴰ
use mathlib.Core.List.{List, [], ◌∷◌, ◌++◌, Memᴰ, append-nil, append_assoc}
use mathlib.Core.Logic.{◌⊎◌, inl, inr}
use Rattle.std.specs.Prelude.{Option, Some, None}
use native.Mathlib.Omega.{arith}
use lib.ListN.{length, take, length-take}
use lib.Seq.{take_all}
use Rattle.record.specs.Lists.{run, all}
use Rattle.record.specs.Node.{nodes_of, is_internal, children}
use Rattle.record.proofs.Nodes.{length_nodes_of}
use Rattle.forest.specs.Graph.{at}
use Rattle.forest.specs.Lists.{has, lowest}
use Rattle.forest.specs.Order.{ids, ready, begun as begun_of, released, order}
use Rattle.claims.specs.Distinct.{fresh, pigeonhole}
use Rattle.claims.specs.Searches.{not_in, none_lowest, lowest_ids, lowest_agree}
use Rattle.claims.specs.Sorts.{run_in}
use Rattle.ready.specs.Tree.{member}
use Rattle.dense_order.specs.State.{Fair, Standing, Appends, Begun, Released}
use Rattle.dense_order.proofs.Linking.{ready_left}

-- what the order so far leaves to be released
pub record Releasing (s w hs ls cs rs : List ℕ) (n begun filled : ℕ) : Type 0 where
  pub since : begun ≤ filled
  pub long : length w ≡ n
  pub standing : Standing s (take filled w) hs ls cs rs n filled
  pub whole : order (nodes_of s) ≡ take filled w ++ released (nodes_of s) (n - (filled - begun)) (take filled w)

forest_counted : (s : List ℕ) (n : ℕ) → Fair s n → length (nodes_of s) ≡ n
forest_counted s n f = length_nodes_of s ∙ sym f.counted

-- all that begins the order is settled
pub all_settled : {s w hs ls cs rs : List ℕ} {n k : ℕ} → k ≤ length w → take k w ≡ begun_of (nodes_of s) → Standing s (take k w) hs ls cs rs n (length (take k w)) → Begun s w hs ls cs rs n k
all_settled {w = w} {k = k} h e t = let z : length (take k w) ≡ k = omega (arith, length-take k w) in record { standing = rw z at t; first = e }

pub releasing_start : {s w hs ls cs rs : List ℕ} {n begun : ℕ} → length w ≡ n → Begun s w hs ls cs rs n begun → Releasing s w hs ls cs rs n begun begun
unfolding order
releasing_start {s} {w} {n = n} {begun} l b =
    let z : n - (begun - begun) ≡ length (nodes_of s) = (let y = forest_counted s n b.standing.stands.chained.fair in omega arith) in
    record { since = omega arith; long = l; standing = b.standing; whole = rw (z, b.first) }

module _ {s w hs ls cs rs : List ℕ} {n begun filled : ℕ} (r : Releasing s w hs ls cs rs n begun filled) where
  settled_whole : take filled (take filled w) ≡ take filled w
  settled_whole = take_all filled (take filled w) (omega (arith, length-take filled w))

  -- the tree's members are the ready ids
  members_ready : (p : ℕ) → p < n → member rs n p ≡ ready (nodes_of s) (take filled w) p
  members_ready p h = (let z = r.standing.stands.counts.members p h in rw settled_whole at z) ∙ sym (ready_left (nodes_of s) (take filled w) p)

  pub lowest_ready : lowest (member rs n) (run 0 n) ≡ lowest (ready (nodes_of s) (take filled w)) (ids (nodes_of s))
  unfolding ids
  lowest_ready = let z = forest_counted s n r.standing.stands.chained.fair in rw z (lowest_agree _ _ 0 n (λ x a b. members_ready x (omega arith)))

  -- the same of as many rows as there are counts
  pub lowest_found : {x : Option ℕ} → lowest (member rs (length cs)) (run 0 (length cs)) ≡ x → lowest (member rs n) (run 0 n) ≡ x
  lowest_found e = rw r.standing.stands.counts.long at e

  -- nothing is ready: the order is complete
  none_released : (m : ℕ) → lowest (ready (nodes_of s) (take filled w)) (ids (nodes_of s)) ≡ None → released (nodes_of s) m (take filled w) ≡ []
  unfolding released
  none_released zero e = refl
  none_released (suc m) e = rw (e, released)

  ends : lowest (ready (nodes_of s) (take filled w)) (ids (nodes_of s)) ≡ None → Released s w hs ls cs rs n filled
  ends e = record { standing = r.standing; whole = sym (r.whole ∙ rw (none_released (n - (filled - begun)) e) (append-nil (take filled w))) }

  pub releasing_none : lowest (member rs n) (run 0 n) ≡ None → Released s w hs ls cs rs n filled
  releasing_none e = ends (sym lowest_ready ∙ e)

  -- all ids are in the order: nothing is ready
  pub releasing_full : n ≤ filled → Released s w hs ls cs rs n filled
  unfolding ids ready
  releasing_full h = ends (none_lowest _ (run 0 (length (nodes_of s))) (λ p m. let (a, b) = run_in 0 (length (nodes_of s)) p m in not_ready p (let z = forest_counted s n r.standing.stands.chained.fair in omega arith)))
    where
      there : (p : ℕ) → p < n → (b : Bool) → has p (take filled w) ≡ b → has p (take filled w) ≡ true
      there p k true e = e
      there p k false e =
          absurd
          (let y = r.standing.upto in
          let z : length (p ∷ take filled w) ≤ n = pigeonhole n (fresh (not_in p _ e) r.standing.stands.distinct) (λ x m. under x (Memᴰ.cases_cons m)) in
          omega arith)
        where
          under : (x : ℕ) → (x ≡ p) ⊎ Memᴰ x (take filled w) → x < n
          under x (inl q) = rw q k
          under x (inr m) = r.standing.stands.below x m

      not_ready : (p : ℕ) → p < n → (is_internal (at (nodes_of s) p) && (not (has p (take filled w)) && all (λ c. has c (take filled w)) (children (at (nodes_of s) p)))) ≡ false
      not_ready p k = rw (there p k _ refl) (and-false (is_internal (at (nodes_of s) p)))

  module _ {p : ℕ} (found : lowest (member rs n) (run 0 n) ≡ Some p) where
    pub found_below : p < n
    found_below = (lowest_ids _ n p found).1

    pub found_ready : ready (nodes_of s) (take filled w) p ≡ true
    found_ready = sym (members_ready p found_below) ∙ (lowest_ids _ n p found).0

    pub releasing_step : {w' cs' rs' : List ℕ} → length w' ≡ length w → filled < n → Appends s w w' hs ls cs' rs' n filled p → Releasing s w' hs ls cs' rs' n begun (filled + 1)
    unfolding released
    releasing_step {w'} i h a =
        let e : n - (filled - begun) ≡ suc (n - (filled + 1 - begun)) = (let z = r.since in omega arith) in
        let f : lowest (ready (nodes_of s) (take filled w)) (ids (nodes_of s)) ≡ Some p = sym lowest_ready ∙ found in
        record {
          since = let z = r.since in omega arith;
          long = i ∙ r.long;
          standing = a.standing;
          whole = r.whole ∙ rw (e, f, released, a.order) (sym (append_assoc (take filled w) (p ∷ []) _));
        }
