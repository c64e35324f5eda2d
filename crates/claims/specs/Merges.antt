-- The result of a merge whose walk has finished: never more nodes than it was given, children below their parents, no two nodes equal,
-- everything in range.
-- Assumes nothing.
use Rattle.std.specs.Prelude.{ℕ, suc, ◌<◌, ◌≤◌, ◌≡◌, Bool, false, ◌⊎◌, Option, Some, None}
use Rattle.std.proofs.Math.Path.{refl, sym}
use Rattle.std.proofs.Common.{◌∙◌}
use Rattle.std.proofs.Math.Bool.{true}
use mathlib.Core.List.Memᴰ
use mathlib.Core.List.{List, [], ◌∷◌, map, Memᴰ, append-nil}
use Rattle.std.proofs.Math.Logic.{inl, inr}
use native.Mathlib.Omega.{arith}
use Rattle.std.proofs.Math.ListN.{length, get_or, length-map}
use Rattle.record.specs.Lists.{run, flat}
use Rattle.record.specs.Node.{nodes_of, node_bytes, rows_of, children, renumber, same_node}
use Rattle.record.specs.declared.Node.{Node}
use Rattle.record.proofs.Basics.{clash}
use Rattle.record.proofs.Lengths.{length_run}
use Rattle.record.proofs.Nodes.{children_renumber, Written, written_renumber}
use Rattle.record.proofs.RoundTrip.{Octets}
use Rattle.forest.specs.Graph.{no_node, at}
use Rattle.forest.specs.Lent.{Input, Room, Result, no_id, first}
use Rattle.forest.specs.Lists.{has, firsts}
use Rattle.forest.specs.Merge.{node_sum, forests_of, graph, roots_of, carried, merged}
use Rattle.forest.specs.Order.{ids, order, place_in, arranged}
use Rattle.forest.specs.Validate.{node_faults, validate}
use Rattle.forest.specs.Walk.{State, start, Walked, going, id_in, walk}
use Rattle.forest.specs.declared.Reply.TheVariants.{Accepted}
use Rattle.claims.specs.Again.{valid}
use Rattle.claims.specs.Built.{Where, earlier, equal, behind, where_is, built_kids, built_apart, built_in, built_passes, walk_few}
use Rattle.claims.specs.Children.{parent_below, Bare}
use Rattle.claims.specs.Cycles.{Passes, checked, graph_counted, bounded}
use Rattle.claims.specs.Origins.{Each, graph_each, merged_each, arranged_each, Proper, proper_renumber, proper_bare, records_proper, records_written, no_node_written}
use Rattle.claims.specs.Passing.{place_lt}
use Rattle.claims.specs.Paths.{HasChild}
use Rattle.claims.specs.Places.{places_one, distinct_at, at_arranged, same_node_lem, node_same}
use Rattle.claims.specs.Ranges.{joined_roots_lem}
use Rattle.claims.specs.Releases.{order_distinct, order_below, length_order}
use Rattle.claims.specs.Results.{validates}
use Rattle.claims.specs.Searches.{get_d_mem}
use Rattle.claims.specs.Sound.{Sound, Finished, in_id_in, walk_sound}
use Rattle.claims.specs.Walks.{Came, Why, fine, met, full, walk_why}

no_node_proper : Proper no_node
unfolding Proper no_node children
no_node_proper c m = absurd (Memᴰ.not-nil m)

-- every root of a finished walk is finished
pub roots_finished : (g : List Node) (limit : ℕ) (roots : List ℕ) (t : State) → walk g limit roots ≡ going t → (r : ℕ) → Memᴰ r roots → Finished t r
roots_finished g limit roots t e r m = go e (walk_why g roots limit)
  where
    go : {w : Walked} → w ≡ going t → Why g roots limit (Came g start roots) w → Finished t r
    go q (fine {s = s} c) = let z : s ≡ t = cc in rw (sym z) (c.ended r m)
    go q (met a b) = absurd (clash (cc))
    go q (full a b c) = absurd (clash (cc))

firsts_in : (seen l : List ℕ) (x : ℕ) → Memᴰ x (firsts seen l) → Memᴰ x l
unfolding firsts
firsts_in seen [] x m = m
firsts_in seen (p ∷ ps) x m = go (has p seen) refl (firsts_in seen ps x) (firsts_in (p ∷ seen) ps x)
  where
    kept : (Memᴰ x (firsts (p ∷ seen) ps) → Memᴰ x ps) → (x ≡ p) ⊎ Memᴰ x (firsts (p ∷ seen) ps) → Memᴰ x (p ∷ ps)
    kept ih (inl e) = Memᴰ.head e
    kept ih (inr k) = Memᴰ.tail (ih k)

    go : (b : Bool) → has p seen ≡ b → (Memᴰ x (firsts seen ps) → Memᴰ x ps) → (Memᴰ x (firsts (p ∷ seen) ps) → Memᴰ x ps) → Memᴰ x (p ∷ ps)
    go true e ih jh = Memᴰ.tail (ih (rw (e, firsts) at m))
    go false e ih jh = kept jh (Memᴰ.cases_cons (rw (e, firsts) at m))

firsts_few : (seen l : List ℕ) → length (firsts seen l) ≤ length l
unfolding firsts
firsts_few seen [] = omega arith
firsts_few seen (p ∷ ps) = go (has p seen) refl (firsts_few seen ps) (firsts_few (p ∷ seen) ps)
  where
    go : (b : Bool) → has p seen ≡ b → length (firsts seen ps) ≤ length ps → length (firsts (p ∷ seen) ps) ≤ length ps → length (firsts seen (p ∷ ps)) ≤ suc (length ps)
    go true e a b = rw (e, firsts) (omega arith)
    go false e a b = rw (e, firsts) (omega arith)

-- merged roots never outnumber the input's
pub roots_few : (i : Input) (t : State) → length (merged (graph i) (roots_of i) t).roots ≤ length i.roots
unfolding merged roots_of forests_of
roots_few i t =
    let a = firsts_few [] (map (carried t (order t.merged)) (roots_of i)) in
    let b = length-map (roots_of i) (carried t (order t.merged)) in
    let c = joined_roots_lem 0 (rows_of i.table) (nodes_of i.nodes) i.roots in
    omega arith

-- the id list has an entry for each input node
pub merged_ids : (limit : ℕ) (i : Input) (m : Room) → Passes limit i m → (t : State) → length (merged (graph i) (roots_of i) t).ids ≡ length m.ids
unfolding merged ids
merged_ids limit i m past t = length-map (run 0 (length (graph i))) _ ∙ (length_run 0 (length (graph i)) ∙ (graph_counted limit i m past ∙ sym (checked limit i m past).ids_long))

-- the walk of a merge past its checks has come to t
module _ (limit : ℕ) (i : Input) (m : Room) (past : Passes limit i m) (t : State) (e : walk (graph i) limit (roots_of i) ≡ going t) where
  abbrev pub delivers : Result
  delivers = merged (graph i) (roots_of i) t

  sound : Sound (graph i) t
  sound = walk_sound (graph i) limit (roots_of i) t e

  merged_bare : Bare t.merged
  merged_bare =
      proper_bare t.merged
      (merged_each Proper proper_renumber no_node_proper (graph i)
      (graph_each Proper proper_renumber i (records_proper i.nodes (checked limit i m past).good)) limit (roots_of i) t e)

  in_order : (p : ℕ) → p < length t.merged → Memᴰ p (order t.merged)
  in_order = built_in t.merged sound.merged_built merged_bare

  -- every merged node has its place in the result
  pub all_placed : length delivers.nodes ≡ length t.merged
  unfolding merged arranged
  all_placed = length-map (order t.merged) _ ∙ length_order t.merged in_order

  -- merged nodes never outnumber the input's
  pub merged_few : length delivers.nodes ≤ node_sum i.table
  merged_few = let a = walk_few (node_sum i.table) (graph i) (roots_of i) (bounded limit i m past) limit t e in let b = all_placed in omega arith

  -- the result's nodes pass Validate's tests
  pub merged_passes : first (node_faults delivers.nodes) ≡ None
  unfolding merged
  merged_passes = built_passes t.merged sound.merged_built merged_bare

  -- a merged node's children are below it
  pub children_below : (p c : ℕ) → HasChild delivers.nodes p c → c < p
  children_below p c k = (valid delivers.nodes merged_passes).kids p c k

  -- so they are in range
  pub children_in_range : (p c : ℕ) → HasChild delivers.nodes p c → c < length delivers.nodes
  children_in_range p c k = let a = children_below p c k in let b = parent_below delivers.nodes p c k in omega arith

  placed_below : (k : ℕ) → k < length t.merged → place_in (order t.merged) k < length delivers.nodes
  placed_below k h =
      let q : place_in (order t.merged) k < length (order t.merged) = rw append-nil at (place_lt k (order t.merged) [] (in_order k h)) in
      let a = length_order t.merged in_order in
      let b = all_placed in
      omega arith

  -- the result's nodes are those of records that are not bad
  merged_written : Octets i.nodes → Each Written delivers.nodes
  unfolding merged
  merged_written octets =
      arranged_each Written written_renumber no_node_written t.merged
      (merged_each Written written_renumber no_node_written (graph i)
      (graph_each Written written_renumber i (records_written i.nodes octets (checked limit i m past).good)) limit (roots_of i) t e)
      (order t.merged)

  -- so their records pass Validate
  pub merged_valid : Octets i.nodes → validate (flat node_bytes delivers.nodes) ≡ Accepted (length delivers.nodes) 0
  merged_valid octets = validates delivers.nodes (merged_written octets) (let a = merged_few in let b = (checked limit i m past).few in omega arith) merged_passes

  -- an id is in range, or the mark for none
  carried_in_range : (p : ℕ) → (carried t (order t.merged) p ≡ no_id) ⊎ (carried t (order t.merged) p < length delivers.nodes)
  unfolding carried
  carried_in_range p = go (id_in t.done p) refl
    where
      go : (o : Option ℕ) → id_in t.done p ≡ o → (carried t (order t.merged) p ≡ no_id) ⊎ (carried t (order t.merged) p < length delivers.nodes)
      go None q = inl (rw (q, carried))
      go (Some k) q = inr (rw (q, carried) (placed_below k (sound.named p k q)))

  pub ids_in_range : (x : ℕ) → Memᴰ x delivers.ids → (x ≡ no_id) ⊎ (x < length delivers.nodes)
  unfolding merged
  ids_in_range x k = from (Memᴰ.of_map (carried t (order t.merged)) (ids (graph i)) k)
    where
      from : (p : ℕ) × Memᴰ p (ids (graph i)) × (carried t (order t.merged) p ≡ x) → (x ≡ no_id) ⊎ (x < length delivers.nodes)
      from (p, j, q) = rw (sym q) (carried_in_range p)

  -- every merged root is in range
  pub roots_in_range : (x : ℕ) → Memᴰ x delivers.roots → x < length delivers.nodes
  unfolding merged carried
  roots_in_range x k = from (Memᴰ.of_map (carried t (order t.merged)) (roots_of i) (firsts_in [] _ x k))
    where
      named : (r : ℕ) → (j : ℕ) × (id_in t.done r ≡ Some j) → carried t (order t.merged) r < length delivers.nodes
      named r (j, q) = rw (q, carried) (placed_below j (sound.named r j q))

      from : (r : ℕ) × Memᴰ r (roots_of i) × (carried t (order t.merged) r ≡ x) → x < length delivers.nodes
      from (r, j, q) = rw (sym q) (named r (in_id_in t.done r (roots_finished (graph i) limit (roots_of i) t e r j)))

  -- no two merged nodes are equal
  merged_apart : (a b : ℕ) → a < length t.merged → b < length t.merged → same_node (at t.merged a) (at t.merged b) ≡ true → a ≡ b
  merged_apart a b h k q = go (where_is b a)
    where
      turned : same_node (at t.merged b) (at t.merged a) ≡ true
      turned = let (x, y, z) = same_node_lem _ _ q in node_same _ _ (sym x) (sym y) (sym z)

      go : Where b a → a ≡ b
      go (earlier u) = absurd (clash (let z = built_apart sound.merged_built a b u k in let w = turned in cc))
      go (equal u) = u
      go (behind u) = absurd (clash (let z = built_apart sound.merged_built b a u h in cc))

  -- two result nodes that are equal were one merged node
  result_one : (a b : ℕ) → a < length t.merged → b < length t.merged
      → same_node (renumber (place_in (order t.merged)) (at t.merged a)) (renumber (place_in (order t.merged)) (at t.merged b)) ≡ true → a ≡ b
  unfolding renumber
  result_one a b h k s = merged_apart a b h k (node_same _ _ (parts s).0 (parts s).1 (places_one (order t.merged) _ _ (child_placed a) (child_placed b) (parts s).2))
    where
      parts : same_node (renumber (place_in (order t.merged)) (at t.merged a)) (renumber (place_in (order t.merged)) (at t.merged b)) ≡ true
          → ((at t.merged a).kind ≡ (at t.merged b).kind) × ((at t.merged a).digest ≡ (at t.merged b).digest) × (map (place_in (order t.merged)) (children (at t.merged a)) ≡ map (place_in (order t.merged)) (children (at t.merged b)))
      parts s = let (x, y, z) = same_node_lem _ _ s in (x, y, sym (children_renumber _ (at t.merged a)) ∙ (z ∙ children_renumber _ (at t.merged b)))

      child_placed : (p c : ℕ) → HasChild t.merged p c → Memᴰ c (order t.merged)
      child_placed p c j = let x = built_kids sound.merged_built p c j in let y = parent_below t.merged p c j in in_order c (omega arith)

  pub no_two_equal : (p q : ℕ) → p < length delivers.nodes → q < length delivers.nodes → same_node (at delivers.nodes p) (at delivers.nodes q) ≡ true → p ≡ q
  unfolding merged
  no_two_equal p q h k s =
      let l : length (order t.merged) ≡ length delivers.nodes = length_order t.merged in_order ∙ sym all_placed in
      let a : p < length (order t.merged) = omega arith in
      let b : q < length (order t.merged) = omega arith in
      let z = s in
      distinct_at (order_distinct t.merged) p q a b
      (result_one _ _ (below p a) (below q b) (rw (at_arranged t.merged (order t.merged) p a, at_arranged t.merged (order t.merged) q b) at z))
    where
      below : (p : ℕ) → p < length (order t.merged) → get_or (order t.merged) p 0 < length t.merged
      below p h = order_below t.merged _ (get_d_mem (order t.merged) p 0 h)
