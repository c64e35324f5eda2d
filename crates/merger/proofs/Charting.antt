-- Before the walk: bases and holders are written into a room of zeros, so that its parts chart the joined graph; and what the walk leaves there.
-- Assumes nothing.
use Prim.Native.Nat.{ℕ, ◌+◌, ◌-◌, ◌/◌, ◌<◌, ◌≤◌}
use mathlib.Core.Path.{◌≡◌, refl, sym, ◌∙◌}
use mathlib.Core.Bool.{not, ◌&&◌}
use mathlib.Core.List.{List, [], Memᴰ}
use Rattle.std.specs.Prelude.{None}
use native.Mathlib.Omega.{arith}
use native.Mathlib.Decide.{dec_lt}
use Rattle.std.proofs.lemmas.List.{get_or_past}
use lib.ListN.{length, take, get_or, replicate}
use Rattle.record.specs.Lists.{same}
use Rattle.record.specs.Node.{size, nodes_of, class, is_external, renumber}
use Rattle.record.specs.declared.Node.{Node}
use Rattle.record.proofs.Nodes.{length_nodes_of}
use Rattle.forest.specs.Graph.{no_node, at, replacement}
use Rattle.forest.specs.Lent.{Input}
use Rattle.forest.specs.Merge.{node_sum, forests_of, graph, roots_of}
use Rattle.forest.specs.Validate.{bad_record}
use Rattle.forest.specs.Walk.{walk}
use Rattle.claims.specs.Cycles.{checked, graph_counted, bounded}
use Rattle.claims.specs.Origins.{graph_each, proper_renumber, proper_bare, records_proper, Proper}
use Rattle.claims.specs.Ranges.{Bounded, step_below}
use Rattle.claims.specs.Walks.{next_step}
use Rattle.sorting.specs.Promises.{Listed}
use Rattle.sorting.proofs.Agree.{last_agree}
use Rattle.sorting.proofs.LastLaws.{highest_last}
use Rattle.sorting.proofs.Uses.{all_listed, at_node_lem}
use Rattle.dense_order.proofs.Arranging.{blank_room}
use Rattle.dense_order.proofs.Fairness.{count_fits}
use Rattle.dense_order.specs.Found.{Checked}
use Rattle.merger.specs.Sections.{spare_at}
use Rattle.merger.specs.Steps.{Past, walk_of, Ends}
use Rattle.merger.specs.Table.{starts, Bases}
use Rattle.merger.specs.Walking.{Mapped, Charted, Roomy, Ample, Shelved, Walks, Begun, MappedIn}
use Rattle.merger.proofs.Fine.{fine_few}
use Rattle.merger.proofs.Parts.{Parts, parts_long, at_state, at_source, at_base, at_spare}
use Rattle.merger.proofs.Passing.{Fits, sizes_fit, passes}
use Rattle.merger.proofs.Roots.{roots_are, walk_fine}

-- a graph that has the records' kinds and digests has their replacements
same_holders : (s : List ℕ) (g : List Node) → length g ≡ length s / size → ((p : ℕ) → p < length s / size → (is_external (at g p) ≡ is_external (at (nodes_of s) p)) × ((at g p).digest ≡ (at (nodes_of s) p).digest))
    → (d : List ℕ) → replacement (nodes_of s) d ≡ replacement g d
unfolding replacement at Listed
same_holders s g l h d =
    highest_last no_node (λ n. not (is_external n) && same d n.digest) (nodes_of s)
    ∙ (rw (length_nodes_of s, ← l) (last_agree _ _ (λ p k. let (a, b) = h p k in rw (a, b)) (rw l (all_listed s)))
    ∙ sym (highest_last no_node (λ n. not (is_external n) && same d n.digest) g))

module _ {limit : ℕ} {i : Input} {w : List ℕ} {n : ℕ} (past : Past limit i w) (counted : n ≡ length i.nodes / size) where
  fits : Fits i w past.sized.room.ids
  fits = sizes_fit past.sized

  pub summed : n ≡ node_sum i.table
  summed = let a = fits.nodes in omega arith

  -- a room as long has room for the walk
  pub roomy : {w₁ : List ℕ} → length w₁ ≡ length w → Roomy i.nodes w₁ n
  roomy l = let e = summed in let a = fits.most_nodes in let b = fits.room in record { counted = counted; few = omega arith; room = omega arith }

  -- w₁ is cleared
  module _ {w₁ : List ℕ} (cleared : w₁ ≡ replicate (length w) 0) where
    zeros : (y : ℕ) → get_or w₁ y 0 ≡ 0
    zeros = let a = roomy {w₁ = w} refl in (blank_room {s = i.nodes} {w = w} {n = n} (record { counted = counted; few = a.few; room = a.room }) cleared).zeros

    counts : length (graph i) ≡ n
    counts = graph_counted limit i past.sized.room (passes past) ∙ sym summed

    good : bad_record i.nodes ≡ None
    good = (checked limit i past.sized.room (passes past)).good

    within : Bounded (node_sum i.table) (graph i) (roots_of i)
    within = bounded limit i past.sized.room (passes past)

    near : (x : ℕ) → Memᴰ x (roots_of i) → x < n
    near x m = let k = within.starts x m in let e = summed in omega arith

    -- it is cut into five parts, and b has the bases
    module _ {v u b₀ b h z : List ℕ} (parts : Parts w₁ v u b₀ h z n) (long : length w₁ ≡ length w) (based : Bases i.table b) (wide : length b ≡ n) where
      pub ample : Ample i.nodes h
      ample = let a = roomy {w₁ = w} refl in let e = parts.holders in record { counted = e ∙ counted; few = rw e a.few }

      pub spare_long : length h ≤ length z
      spare_long = let a = (roomy {w₁ = w} refl).room in let e = parts.holders in let l = parts_long parts in omega arith

      blank : (p : ℕ) → Dec (p < n) → get_or v p 0 ≡ 0
      blank p (yes l) = sym (at_state parts p l) ∙ zeros p
      blank p (no l) = get_or_past v p 0 (let e = parts.states in omega arith)

      spare_blank : (y : ℕ) → get_or z y 0 ≡ 0
      spare_blank y = sym (at_spare parts y) ∙ zeros (spare_at n + y)

      -- the node at p is record number p with its forest's base
      based_at : (p : ℕ) → p < n → at (graph i) p ≡ renumber (λ c. get_or b p 0 + c) (at (nodes_of i.nodes) p)
      unfolding graph forests_of
      based_at p l = based.bases (nodes_of i.nodes) i.roots (length_nodes_of i.nodes ∙ sym (wide ∙ counted)) p (omega arith)

      alike : (p : ℕ) → p < length i.nodes / size → (is_external (at (graph i) p) ≡ is_external (at (nodes_of i.nodes) p)) × ((at (graph i) p).digest ≡ (at (nodes_of i.nodes) p).digest)
      unfolding renumber is_external class
      alike p l = rw (based_at p (omega arith)) (refl, refl)

      mapped : Mapped i.nodes b (graph i)
      mapped = record {
        counted = wide ∙ counted;
        few = rw wide (roomy {w₁ = w} refl).few;
        long = counts ∙ sym wide;
        nodes = λ p l. rw (← at_node_lem i.nodes p (omega arith)) (based_at p (omega arith));
        fit = λ p l. count_fits i.nodes good p (omega arith);
        inside = λ p c m. let k = step_below _ _ _ within p c (next_step (graph i) p c m) in let y = summed in omega arith;
        bare = proper_bare (graph i) (graph_each Proper proper_renumber i (records_proper i.nodes good));
      }

      -- the holders are sorted, r of them
      module _ {h' z' : List ℕ} {r : ℕ} (shelved : Shelved i.nodes h h' z z' r) where
        pub charted : Charted i.nodes b (take r h') (graph i)
        charted = record { mapped = mapped; held = shelved.held; same = λ d. same_holders i.nodes (graph i) (counts ∙ counted) alike d }

        pub begun : Begun i.table i.nodes i.roots b (take r h') v u
        begun =
            record {
              graph = graph i;
              charted = charted;
              tall = parts.states ∙ sym wide;
              wide = parts.sources ∙ sym wide;
              blank = λ p. blank p (dec_lt p n);
              long = fits.roots;
              near = λ x m. rw wide (near x (rw (roots_are i) m));
            }

        -- the walk leaves the room w₃, and answers a
        module _ {v' u' w₃ : List ℕ} {a : Checked ℕ} (left : Parts w₃ v' u' b h' z' n) (long' : length w₃ ≡ length w)
            (walks : (g : List Node) → Charted i.nodes b (take r h') g → Walks g v' u' (length b) [] (walk g limit (starts i.table i.roots)) a) where
          mapped_in : MappedIn i.nodes w₃ n (graph i)
          mapped_in =
              let m = mapped in
              let y = roomy {w₁ = w₃} long' in
              record {
                counted = counted;
                few = y.few;
                room = y.room;
                long = counts;
                nodes = λ p l. rw (at_base left p l) (m.nodes p (omega arith));
                fit = λ p l. m.fit p (omega arith);
                inside = λ p c k. rw (← wide) (m.inside p c k);
                bare = m.bare;
              }

          pub ends : Ends limit i w₃ n a
          unfolding walk_of
          ends =
              let k = rw (← roots_are i) at (walks (graph i) charted) in
              record {
                answer = k.answer;
                ended = λ t e.
                    let c = rw wide at (k.came t e) in
                    let f = walk_fine (graph i) n mapped_in.inside limit (roots_of i) t e near in
                    record {
                      mapped = mapped_in;
                      fine = f;
                      holds = record {
                        states = λ p l. at_state left p l ∙ c.states p l;
                        sources = λ j l. rw (at_source left j (let m = fine_few f in omega arith)) (c.sources j l);
                      };
                      counted = refl;
                      zeros = λ y l. let o : spare_at n + (y - spare_at n) ≡ y = omega arith in rw o at (at_spare left (y - spare_at n)) ∙ shelved.zeros spare_blank (y - spare_at n);
                    };
              }
