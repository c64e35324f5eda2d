-- Every node of the joined graph, of the merged nodes and of the result comes from an input record: what renumbering keeps, they have.
-- Assumes nothing.
use Rattle.std.specs.Prelude.{ℕ, zero, suc, ◌+◌, ◌*◌, ◌^◌, ◌/◌, ◌<◌, ◌≡◌, refl, true, false, ◌⊎◌, length, drop, replicate, None}
use Rattle.std.proofs.Common.{sym, inl, inr, arith}
use mathlib.Core.List.Memᴰ
use mathlib.Core.List.{List, [], ◌∷◌, map, Memᴰ}
use Rattle.record.specs.Lists.{run, all, flat}
use Rattle.record.specs.Node.{words, size, node_at, nodes_of, node_bytes, rows_of, class_of, rank, class, is_internal, bad, children, renumber}
use Rattle.record.specs.declared.Node.{Node}
use Rattle.record.specs.declared.Row.{Row}
use Rattle.record.proofs.Lengths.{Full}
use Rattle.record.proofs.Nodes.{child_from, good_internal, full_read, full_renumber, Written, written_read, length_records}
use Rattle.record.proofs.RoundTrip.{Octets}
use Rattle.forest.specs.Canonicalize.{canonical}
use Rattle.forest.specs.Graph.{Forest, forests, joined, no_node, at}
use Rattle.forest.specs.Lent.{Input}
use Rattle.forest.specs.Merge.{forests_of, graph, roots_of, merged}
use Rattle.forest.specs.Order.{place_in, arranged}
use Rattle.forest.specs.Validate.{bad_record}
use Rattle.forest.specs.Walk.{State, going, walk}
use Rattle.claims.specs.Checks.{naming_none}
use Rattle.claims.specs.Children.{parent_in, Bare}
use Rattle.claims.specs.Searches.{lowest_none, get_d_in, take_from, drop_from, flat_from}
use Rattle.claims.specs.Sound.{walk_sound}

forests_from : (b : ℕ) (rs : List Row) (ns : List Node) (roots : List ℕ) (f : Forest) (n : Node) → Memᴰ f (forests b rs ns roots) → Memᴰ n f.nodes → Memᴰ n ns
unfolding forests
forests_from b [] ns roots f n k m = absurd (Memᴰ.not-nil k)
forests_from b (r ∷ rs) ns roots f n (Memᴰ.head e) m = take_from r.nodes ns n (rw e at m)
forests_from b (r ∷ rs) ns roots f n (Memᴰ.tail k) m = drop_from r.nodes ns n (forests_from (b + r.nodes) rs (drop r.nodes ns) (drop r.roots roots) f n k m)

-- P holds of each node
abbrev pub Each : (Node → Type 0) → List Node → Type 0
Each P g = (n : Node) → Memᴰ n g → P n

module _ (P : Node → Type 0) (stays : (f : ℕ → ℕ) (n : Node) → P n → P (renumber f n)) where
  pub graph_each : (i : Input) → Each P (nodes_of i.nodes) → Each P (graph i)
  unfolding graph forests_of joined
  graph_each i h x m = from (flat_from _ (forests_of i) x m)
    where
      lifted : (f : Forest) → Memᴰ f (forests_of i) → (n : Node) × Memᴰ n f.nodes × (renumber (λ c. f.base + c) n ≡ x) → P x
      lifted f k (n, j, z) = rw (sym z) (stays (λ c. f.base + c) n (h n (forests_from 0 (rows_of i.table) (nodes_of i.nodes) i.roots f n k j)))

      from : (f : Forest) × Memᴰ f (forests_of i) × Memᴰ x (map (renumber (λ c. f.base + c)) f.nodes) → P x
      from (f, k, j) = lifted f k (Memᴰ.of_map (renumber (λ c. f.base + c)) f.nodes j)

  module _ (nowhere : P no_node) where
    pub at_each : (g : List Node) → Each P g → (p : ℕ) → P (at g p)
    unfolding at
    at_each g h p = go (get_d_in g p no_node)
      where
        go : Memᴰ (at g p) g ⊎ (at g p ≡ no_node) → P (at g p)
        go (inl m) = h (at g p) m
        go (inr e) = rw e nowhere

    pub merged_each : (g : List Node) → Each P g → (limit : ℕ) (roots : List ℕ) (t : State) → walk g limit roots ≡ going t → Each P t.merged
    merged_each g h limit roots t e x m =
        let o = (walk_sound g limit roots t e).origin x m in
        rw o.is (stays o.ids (at g o.place) (at_each g h o.place))

    pub arranged_each : (g : List Node) → Each P g → (o : List ℕ) → Each P (arranged g o)
    unfolding arranged
    arranged_each g h o x m = from (Memᴰ.of_map (λ p. renumber (place_in o) (at g p)) o m)
      where
        from : (p : ℕ) × Memᴰ p o × (renumber (place_in o) (at g p) ≡ x) → P x
        from (p, k, e) = rw (sym e) (stays (place_in o) (at g p) (at_each g h p))

-- FULL RECORDS ------------------------------------------------------------------------------------

-- what holds of each record that is read
records_each : (P : Node → Type 0) (s : List ℕ) → ((i : ℕ) → P (node_at s i)) → Each P (nodes_of s)
unfolding nodes_of
records_each P s h n m = from (Memᴰ.of_map (node_at s) (run 0 (length s / size)) m)
  where
    from : (i : ℕ) × Memᴰ i (run 0 (length s / size)) × (node_at s i ≡ n) → P n
    from (i, k, e) = rw (sym e) (h i)

pub records_full : (s : List ℕ) → Each Full (nodes_of s)
records_full s = records_each Full s (full_read s)

no_node_full : Full no_node
unfolding no_node
no_node_full = record { kids_long = refl; digest_long = refl }

-- the nodes of a result are full, so its bytes are as many records
pub canonical_records : (i : Input) → length (flat node_bytes (canonical (nodes_of i.nodes) i.roots).nodes) ≡ size * length (canonical (nodes_of i.nodes) i.roots).nodes
unfolding canonical
canonical_records i = length_records _ (arranged_each Full full_renumber no_node_full (nodes_of i.nodes) (records_full i.nodes) _)

pub merged_records : (i : Input) (limit : ℕ) (t : State) → walk (graph i) limit (roots_of i) ≡ going t
    → length (flat node_bytes (merged (graph i) (roots_of i) t).nodes) ≡ size * length (merged (graph i) (roots_of i) t).nodes
unfolding merged
merged_records i limit t e =
    length_records _ (arranged_each Full full_renumber no_node_full t.merged
    (merged_each Full full_renumber no_node_full (graph i) (graph_each Full full_renumber i (records_full i.nodes)) limit (roots_of i) t e) _)

-- CHILDREN OF INTERNALS ---------------------------------------------------------------------------

-- a node with a child is internal
unfoldable pub Proper : Node → Type 0
Proper x = (c : ℕ) → Memᴰ c (children x) → is_internal x ≡ true

pub proper_renumber : (f : ℕ → ℕ) (n : Node) → Proper n → Proper (renumber f n)
unfolding Proper is_internal class renumber
proper_renumber f n t c m = from (child_from f n c m)
  where
    from : (x : ℕ) × Memᴰ x (children n) × (f x ≡ c) → is_internal n ≡ true
    from (x, k, q) = t x k

pub proper_bare : (g : List Node) → Each Proper g → Bare g
unfolding Bare Proper
proper_bare g h p c k = h (at g p) (parent_in g p c k) c k

pub records_proper : (s : List ℕ) → bad_record s ≡ None → Each Proper (nodes_of s)
unfolding Proper bad_record
records_proper s e n m c k = good_internal n (lowest_none bad (nodes_of s) (naming_none _ _ e) n m) c k

-- WHAT IS WRITTEN ---------------------------------------------------------------------------------

pub records_written : (s : List ℕ) → Octets s → bad_record s ≡ None → Each Written (nodes_of s)
unfolding bad_record
records_written s h e n m = (records_each (λ x. bad x ≡ false → Written x) s (λ i. written_read s i h) n m) (lowest_none bad (nodes_of s) (naming_none _ _ e) n m)

pub no_node_written : Written no_node
unfolding no_node bad is_internal class class_of rank all
no_node_written = record { full = no_node_full; passes = refl; digest_fits = λ x m. zeros words x m }
  where
    zeros : (k x : ℕ) → Memᴰ x (replicate k 0) → x < 256 ^ 8
    zeros zero x m = absurd (Memᴰ.not-nil m)
    zeros (suc k) x (Memᴰ.head e) = rw e (omega arith)
    zeros (suc k) x (Memᴰ.tail m) = zeros k x m
