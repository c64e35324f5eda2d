-- Laws of an arranged forest's outputs: each id has a place in the order, its mark tells it, and what is written is the canonical forest.
-- Assumes nothing.
use Prim.Native.Nat.{ℕ, suc, ◌-◌, ◌*◌, ◌<◌, ◌≤◌}
use mathlib.Core.Path.{◌≡◌, refl, sym, ◌∙◌, ap}
use mathlib.Core.Bool.{not}
use mathlib.Core.List.Memᴰ
use mathlib.Core.List.{List, [], ◌∷◌, map, Memᴰ}
use Rattle.std.specs.Prelude.{Option, Some, None}
use native.Mathlib.Omega.{arith}
use lib.Dec.{ltb, eqb}
use borrow.Author.Tests.{ltb-true, not-false, eq-eqb}
use lib.ListN.{length, take, drop, get_or, length-take, length-drop}
use lib.Seq.{get_or-take, get_or-drop}
use Rattle.record.specs.Lists.{run, flat}
use Rattle.record.specs.Node.{size, node_at, nodes_of, node_bytes, children, renumber}
use Rattle.record.specs.declared.Node.{Node}
use Rattle.record.proofs.Basics.{clash}
use Rattle.record.proofs.Nodes.{length_nodes_of}
use Rattle.forest.specs.Canonicalize.{alone, root_range, child_range, disorders, canonical}
use Rattle.forest.specs.Graph.{far_root, far_child, at}
use Rattle.forest.specs.Lent.{first}
use Rattle.forest.specs.Lists.{lowest}
use Rattle.forest.specs.Order.{ids, order, unreleased, place_in, arranged}
use Rattle.forest.specs.Validate.{bad_record}
use Rattle.forest.specs.Walk.{or_none}
use Rattle.claims.specs.Accepting.{unreleased_all}
use Rattle.claims.specs.Checks.{first_none, naming_none}
use Rattle.claims.specs.Releases.{order_below}
use Rattle.claims.specs.Searches.{lowest_none}
use Rattle.claims.specs.Sorts.{run_in}
use Rattle.room.specs.Sections.{span}
use Rattle.dense_order.specs.Marks.{mark_of, new_id, Placed, Writable}
use Rattle.dense_order.specs.State.{Fair}
use Rattle.dense_order.specs.Steps.{forest_checks, Deliverable, Delivered}
use Rattle.dense_order.proofs.Enlisting.{node_is}
use Rattle.dense_order.proofs.Fairness.{fair}
use Rattle.dense_order.proofs.Records.{moved}
use Rattle.dense_order.proofs.RootRange.{far_root_is}

-- MAPS THAT AGREE ---------------------------------------------------------------------------------

pub map_agree : {B : Type 0} (f h : ℕ → B) (l : List ℕ) → ((x : ℕ) → Memᴰ x l → f x ≡ h x) → map f l ≡ map h l
map_agree f h [] e = refl
map_agree f h (x ∷ l) e = rw (e x (Memᴰ.head refl), map_agree f h l (λ y m. e y (Memᴰ.tail m)))

-- only the new ids of children count
pub renumber_agree : (f h : ℕ → ℕ) (m : Node) → ((c : ℕ) → Memᴰ c (children m) → f c ≡ h c) → renumber f m ≡ renumber h m
unfolding renumber
renumber_agree f h m e = rw (map_agree f h (children m) e)

-- MARKS -------------------------------------------------------------------------------------------

-- the mark of what is in the order is 1 more than its place
mark_place : (o : List ℕ) (p : ℕ) → Memᴰ p o → mark_of o p ≡ suc (place_in o p)
unfolding mark_of place_in or_none
mark_place o p m = go (lowest (eqb p) o) refl
  where
    go : (r : Option ℕ) → lowest (eqb p) o ≡ r → mark_of o p ≡ suc (place_in o p)
    go None e = absurd (clash (let z = lowest_none (eqb p) o e p m in let y = eq-eqb p p refl in cc))
    go (Some i) e = rw (e, mark_of, place_in, or_none)

-- AN ARRANGED FOREST ------------------------------------------------------------------------------

-- no record is bad, no root and no child is past the end, every id is released
record Checked (s rs : List ℕ) : Type 0 where
  sound : bad_record s ≡ None
  near : far_root (alone (nodes_of s) rs) ≡ None
  inside : far_child (alone (nodes_of s) []) ≡ None
  ended : unreleased (nodes_of s) ≡ None

checked : (s rs : List ℕ) → first (forest_checks s rs) ≡ None → Checked s rs
unfolding forest_checks root_range disorders child_range
checked s rs e =
    let (a, e1) = first_none _ _ e in
    let (b, e2) = first_none _ _ e1 in
    let e3 = (first_none _ _ e2).1 in
    let (c, e4) = first_none _ _ e3 in
    let d = (first_none _ _ e4).0 in
    record { sound = a; near = naming_none _ _ b; inside = naming_none _ _ c; ended = naming_none _ _ d }

-- the marks of the room's n ids
abbrev pub marks_of : List ℕ → ℕ → List ℕ
marks_of w n = take (2 * n - n) (drop n w)

module _ {s rs w : List ℕ} {n : ℕ} (d : Deliverable s rs w n) where
  passes : Checked s rs
  passes = checked s rs d.passed

  counted : length (nodes_of s) ≡ n
  counted = length_nodes_of s ∙ sym d.fitting.counted

  walks : Fair s n
  walks = fair d.fitting.counted d.fitting.few passes.sound passes.inside

  pub room_fits : 2 * n ≤ length w
  room_fits = let z = d.fitting.room in omega arith

  -- every id has a place
  ordered : (p : ℕ) → p < n → Memᴰ p (order (nodes_of s))
  ordered p h = unreleased_all (nodes_of s) passes.ended p (let z = counted in omega arith)

  pub marks_long : length (marks_of w n) ≡ n
  marks_long = let z = room_fits in omega (arith, length-take (2 * n - n) (drop n w), length-drop n w)

  mark_is : (p : ℕ) → p < n → get_or (marks_of w n) p 0 ≡ suc (place_in (order (nodes_of s)) p)
  mark_is p h = get_or-take (2 * n - n) (drop n w) p 0 (omega arith) ∙ get_or-drop n w p 0 ∙ d.arranged.marks p h ∙ mark_place (order (nodes_of s)) p (ordered p h)

  pub id_marked : (p : ℕ) → p < length (marks_of w n) → 0 < get_or (marks_of w n) p 0
  id_marked p h = let z = mark_is p (let l = marks_long in omega arith) in omega arith

  id_placed : (p : ℕ) → p < n → Placed (marks_of w n) p
  id_placed p h = let i : p < length (marks_of w n) = (let l = marks_long in omega arith) in (i, id_marked p i)

  new_id_is : (p : ℕ) → p < n → new_id (marks_of w n) p ≡ place_in (order (nodes_of s)) p
  unfolding new_id
  new_id_is p h = let z = mark_is p h in omega arith

  -- what the order holds, children and roots are ids
  order_ids : (x : ℕ) → Memᴰ x (order (nodes_of s)) → x < n
  order_ids x m = let z = order_below (nodes_of s) x m in let y = counted in omega arith

  child_below : (p : ℕ) → p < n → (c : ℕ) → Memᴰ c (children (node_at s p)) → c < n
  child_below p h c m = walks.inside p c (rw (node_is walks h) m)

  root_below : (r : ℕ) → Memᴰ r rs → r < n
  root_below r m =
      let e = sym (far_root_is (nodes_of s) rs) ∙ passes.near in
      let z = ltb-true r (length (nodes_of s)) (not-false _ (lowest_none not _ e _ (Memᴰ.map (λ x. ltb x (length (nodes_of s))) m))) in
      let y = counted in
      omega arith

  -- what the three writers want
  pub root_placed : (r : ℕ) → Memᴰ r rs → Placed (marks_of w n) r
  root_placed r m = id_placed r (root_below r m)

  ids_are : take n w ≡ order (nodes_of s)
  unfolding span
  ids_are = let z : n - 0 ≡ n = omega arith in rw z at d.arranged.whole

  pub writable : {out : List ℕ} → length out ≡ size * n → Writable s (take n w) (marks_of w n) out
  writable e = record {
    room = let l : length (take n w) ≡ n = (let z = room_fits in omega (arith, length-take n w)) in omega arith;
    inside = λ x m. let z = d.whole in let y = order_ids x (rw (← ids_are) m) in omega arith;
    few = λ x m. walks.fit x (order_ids x (rw (← ids_are) m));
    placed = λ x m c k. id_placed c (child_below x (order_ids x (rw (← ids_are) m)) c k);
  }

  -- what they write
  nodes_are : map (moved s (marks_of w n)) (take n w) ≡ arranged (nodes_of s) (order (nodes_of s))
  unfolding arranged
  nodes_are = rw ids_are (map_agree _ _ (order (nodes_of s)) (λ p m. moved_is p (order_ids p m)))
    where
      moved_is : (p : ℕ) → p < n → moved s (marks_of w n) p ≡ renumber (place_in (order (nodes_of s))) (at (nodes_of s) p)
      moved_is p h = rw (node_is walks h) (renumber_agree _ _ (node_at s p) (λ c k. new_id_is c (child_below p h c k)))

  pub delivered : {nodeOut rootOut idList : List ℕ} → nodeOut ≡ flat node_bytes (map (moved s (marks_of w n)) (take n w)) → rootOut ≡ map (new_id (marks_of w n)) rs → idList ≡ map (new_id (marks_of w n)) (run 0 (length (marks_of w n))) → Delivered s rs nodeOut rootOut idList
  unfolding canonical ids
  delivered a b c = record {
    nodes = a ∙ ap (flat node_bytes) nodes_are;
    roots = b ∙ map_agree _ _ rs (λ r m. new_id_is r (root_below r m));
    ids_are = c ∙ rw (marks_long, counted) (map_agree _ _ (run 0 n) (λ p m. let (x, y) = run_in 0 n p m in new_id_is p (omega arith)));
  }
