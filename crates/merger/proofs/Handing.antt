-- Laws of delivering: what the settled room gives the three writers, and that they write the merged forest.
-- Assumes nothing.
use Prim.Native.Nat.{ℕ, ◌+◌, ◌-◌, ◌<◌}
use mathlib.Core.Path.{◌≡◌, refl, sym, ◌∙◌, ap}
use mathlib.Core.List.{List, map, Memᴰ}
use Rattle.std.specs.Prelude.{Option, Some, None}
use native.Mathlib.Omega.{arith}
use lib.ListN.{length, take, drop, get_or, length-map, length-take, length-drop}
use lib.Seq.{ext_get_or, get_or-take, get_or-drop}
use Rattle.record.specs.Lists.{run, over, flat}
use Rattle.record.specs.Node.{node_at, node_bytes, children, renumber}
use Rattle.record.specs.declared.Node.{Node}
use Rattle.record.proofs.Lengths.{length_run}
use Rattle.record.proofs.Nodes.{children_renumber}
use Rattle.forest.specs.Graph.{no_node, at, listed, replaced_by, next}
use Rattle.forest.specs.Merge.{carried, merged}
use Rattle.forest.specs.Order.{ids, order, place_in, arranged}
use Rattle.forest.specs.Walk.{State, id_in, or_none, id_of}
use Rattle.claims.specs.Places.{at_arranged}
use Rattle.claims.specs.Sound.{Finished, in_id_in}
use Rattle.claims.specs.Walks.{id_in_in}
use Rattle.room.specs.Sections.{span}
use Rattle.sorting.proofs.Uses.{get_d_map}
use Rattle.dense_order.proofs.Delivering.{renumber_agree}
use Rattle.dense_order.proofs.Filling.{ids_at}
use Rattle.merger.specs.Rooms.{shown_as}
use Rattle.merger.specs.Sections.{bases_at, order_at, starts_at}
use Rattle.merger.specs.Settling.{carried_word, Settled, Delivered}
use Rattle.merger.specs.Walking.{EachReadable, merged_at}
use Rattle.merger.proofs.Renumbering.{renumber_twice}
use Rattle.merger.proofs.Writing.{shown_none, shown_id}

module _ {s w : List ℕ} {n m count : ℕ} {g : List Node} {ps : List ℕ} {t : State} (a : Settled s w n m count g ps t) where
  abbrev o : List ℕ
  o = order t.merged

  abbrev source : ℕ → ℕ
  source j = get_or w (order_at n + j) 0

  source_ended : (j : ℕ) → j < m → Finished t (source j)
  source_ended j h = id_in_in t.done (source j) (get_or o j 0) (a.sources j h).own

  source_below : (j : ℕ) → j < m → source j < n
  source_below j h = a.fine.within (source j) (source_ended j h)

  -- a child's position, and that it is finished
  abbrev kid : ℕ → ℕ → ℕ
  kid j c = get_or w (bases_at n + source j) 0 + c

  kid_next : (j : ℕ) → j < m → (c : ℕ) → Memᴰ c (children (node_at s (source j))) → Memᴰ (kid j c) (next g (source j))
  unfolding next
  kid_next j h c k =
      let q : Memᴰ (kid j c) (children (at g (source j))) = rw (a.mapped.nodes (source j) (source_below j h), children_renumber (λ x. kid j x) (node_at s (source j))) (mathlib.Core.List.Memᴰ.map (λ x. kid j x) k) in
      mathlib.Core.List.Memᴰ.append_left (listed (replaced_by g (source j))) q

  kid_word : (j : ℕ) → j < m → (c : ℕ) → Memᴰ c (children (node_at s (source j))) → (kid j c < n) × (get_or w (kid j c) 0 ≡ place_in o (id_of t (kid j c)) + 2)
  unfolding carried_word id_of or_none
  kid_word j h c k =
      let q = kid_next j h c k in
      let b = a.mapped.inside (source j) (kid j c) q in
      let (i, e) = in_id_in t.done (kid j c) (a.fine.closed (source j) (kid j c) (source_ended j h) q) in
      (b, a.ids (kid j c) b ∙ rw e refl)

  -- the sections that the writers read
  abbrev bases : List ℕ
  bases = take (bases_at n + n - bases_at n) (drop (bases_at n) w)

  abbrev states : List ℕ
  states = take n w

  abbrev placed : List ℕ
  placed = take (order_at n + m - order_at n) (drop (order_at n) w)

  abbrev heads : List ℕ
  heads = take (starts_at n + count - starts_at n) (drop (starts_at n) w)

  bases_long : length bases ≡ n
  bases_long = let f = a.mapped.room in simp (length-take, length-drop) (omega arith)

  states_long : length states ≡ n
  states_long = let f = a.mapped.room in simp length-take (omega arith)

  placed_long : length placed ≡ m
  placed_long = let f = a.mapped.room in let k = a.few in simp (length-take, length-drop) (omega arith)

  base_at : (p : ℕ) → p < n → get_or bases p 0 ≡ get_or w (bases_at n + p) 0
  base_at p h = get_or-take (bases_at n + n - bases_at n) (drop (bases_at n) w) p 0 (omega arith) ∙ get_or-drop (bases_at n) w p 0

  state_at : (p : ℕ) → p < n → get_or states p 0 ≡ get_or w p 0
  state_at p h = get_or-take n w p 0 h

  placed_at : (j : ℕ) → j < m → get_or placed j 0 ≡ source j
  placed_at j h = get_or-take (order_at n + m - order_at n) (drop (order_at n) w) j 0 (omega arith) ∙ get_or-drop (order_at n) w j 0

  pub readable : EachReadable s bases states placed
  readable j h =
      let i : j < m = let l = placed_long in omega arith in
      let low = source_below j i in
      rw (placed_at j i) (record {
        below = let l = bases_long in omega arith;
        within = let c = a.mapped.counted in omega arith;
        few = let l = bases_long in let c = a.mapped.few in omega arith;
        fit = a.mapped.fit (source j) low;
        ended = λ c k. let (x, y) = kid_word j i c k in rw (base_at (source j) low) (let l = states_long in omega arith, let z = state_at (kid j c) x in omega arith);
      })

  -- the node that is written at place j of the order
  node_is : (j : ℕ) → j < m → merged_at s bases states (source j) ≡ renumber (place_in o) (at t.merged (get_or o j 0))
  unfolding merged_at
  node_is j h =
      let low = source_below j h in
      rw ((a.sources j h).node, a.mapped.nodes (source j) low, renumber_twice (id_of t) (λ c. kid j c) (node_at s (source j)), renumber_twice (place_in o) (λ c. id_of t (kid j c)) (node_at s (source j)))
      (renumber_agree _ _ (node_at s (source j)) (λ c k. let (x, y) = kid_word j h c k in rw (base_at (source j) low) (let z = state_at (kid j c) x in omega arith)))

  nodes_are : map (merged_at s bases states) placed ≡ arranged t.merged o
  unfolding at arranged
  nodes_are =
      let e = a.nodes in
      let l = placed_long in
      let p : length (map (merged_at s bases states) placed) ≡ length placed = length-map placed _ in
      let q : length (arranged t.merged o) ≡ length o = length-map o _ in
      ext_get_or no_node (map (merged_at s bases states) placed) (arranged t.merged o) (omega arith) (λ j i.
      get_d_map (merged_at s bases states) placed j 0 no_node (omega arith)
      ∙ (ap (merged_at s bases states) (placed_at j (omega arith)) ∙ (node_is j (omega arith) ∙ sym (at_arranged t.merged o j (omega arith)))))

  -- the id that is written for a position
  id_is : (p : ℕ) → p < n → shown_as (get_or w p 0) ≡ carried t o p
  unfolding carried carried_word
  id_is p h = rw (a.ids p h) (go (id_in t.done p) refl)
    where
      go : (r : Option ℕ) → id_in t.done p ≡ r → shown_as (carried_word o (id_in t.done p)) ≡ carried t o p
      go None e = rw (e, carried) (sym (shown_none 0 (omega arith)))
      go (Some i) e = rw (e, carried) (sym (shown_id (place_in o i + 2) (omega arith)) ∙ omega arith)

  ids_are : map shown_as states ≡ map (carried t o) (run 0 n)
  ids_are =
      let l = states_long in
      let k = length_run 0 n in
      let p : length (map shown_as states) ≡ length states = length-map states _ in
      let q : length (map (carried t o) (run 0 n)) ≡ length (run 0 n) = length-map (run 0 n) _ in
      ext_get_or 0 (map shown_as states) (map (carried t o) (run 0 n)) (omega arith) (λ j i.
      get_d_map shown_as states j 0 0 (omega arith)
      ∙ (ap shown_as (state_at j (omega arith))
      ∙ (id_is j (omega arith) ∙ sym (get_d_map (carried t o) (run 0 n) j 0 0 (omega arith) ∙ ap (carried t o) (ids_at n j (omega arith))))))

  pub delivered : {a₀ a' b₀ b' c' : List ℕ} → a' ≡ over a₀ 0 (flat node_bytes (map (merged_at s bases states) placed)) → b' ≡ over b₀ 0 heads → c' ≡ map shown_as states
      → Delivered g ps t a₀ a' b₀ b' c'
  unfolding merged ids span
  delivered {a₀} {a'} {b₀} {b'} {c'} x y z = record {
    nodes = x ∙ ap (λ (l : List Node). over a₀ 0 (flat node_bytes l)) nodes_are;
    roots = y ∙ ap (over b₀ 0) a.roots;
    ids_are = z ∙ rw a.mapped.long ids_are;
  }
