-- Laws of the result in a room that is cut, step by step: the order, the places of ids, the ids carried through it, the roots.
-- Assumes nothing.
use Prim.Native.Nat.{ℕ, ◌+◌, ◌-◌, ◌<◌}
use mathlib.Core.Path.{◌≡◌, refl, sym, ◌∙◌, ap}
use mathlib.Core.List.{List, [], ◌++◌, map, Memᴰ, append-nil}
use Rattle.std.specs.Prelude.{Option, Some, None}
use native.Mathlib.Omega.{arith}
use lib.ListN.{length, take, get_or, length-take, length-map}
use lib.Seq.{get_or-take}
use Rattle.std.proofs.lemmas.List.{get_or_append_left}
use Rattle.record.specs.declared.Node.{Node}
use Rattle.forest.specs.Lists.{has, firsts}
use Rattle.forest.specs.Merge.{root_sum, carried}
use Rattle.forest.specs.Order.{order, place_in}
use Rattle.forest.specs.Walk.{State, id_in}
use Rattle.claims.specs.Built.{built_in}
use Rattle.claims.specs.Passing.{place_lt}
use Rattle.claims.specs.Places.{place_at_lem, distinct_at}
use Rattle.claims.specs.Releases.{order_distinct, order_below, length_order}
use Rattle.claims.specs.Searches.{get_d_mem}
use Rattle.claims.specs.Sound.{Finished, in_id_in}
use Rattle.sorting.proofs.Uses.{get_d_map}
use Rattle.dense_order.proofs.Delivering.{map_agree}
use Rattle.merger.specs.Rooms.{Sourced, sorted, id_on, id_at, Ends, Lined, Movable, moved, Rooted, mentioned, Mentions}
use Rattle.merger.specs.Sections.{sources_at, bases_at, order_at, listed_at}
use Rattle.merger.specs.Settling.{carried_word, Settled}
use Rattle.merger.specs.Table.{starts}
use Rattle.merger.specs.Walking.{word, Ended}
use Rattle.merger.proofs.Cutting.{Cut, cut_long, state_at, walk_at, place_at, mark_at, roots_at}
use Rattle.merger.proofs.Moving.{moved_low, moved_high}
use Rattle.merger.proofs.Sourcing.{sound_bare, source, source_of, few, source_below, sources_listed, sorted_is}

module _ {s w : List ℕ} {n m : ℕ} {g : List Node} {t : State} (a : Ended s w n m g t) where
  abbrev o : List ℕ
  o = order t.merged

  in_order : (k : ℕ) → k < m → Memᴰ k o
  in_order k h = built_in t.merged a.fine.sound.merged_built (sound_bare a.mapped.bare a.fine.sound) k (let e = a.counted in omega arith)

  order_long : length o ≡ m
  order_long = let e = a.counted in length_order t.merged (λ k h. in_order k (omega arith)) ∙ sym e

  id_low : (j : ℕ) → j < m → get_or o j 0 < m
  id_low j h = let e = a.counted in let l = order_long in let b = order_below t.merged (get_or o j 0) (get_d_mem o j 0 (omega arith)) in omega arith

  place_low : (k : ℕ) → k < m → place_in o k < m
  place_low k h = let l = order_long in let b : place_in o k < length o = rw append-nil at (place_lt k o [] (in_order k h)) in omega arith

  module _ {v walk spare held places marks found : List ℕ} (c : Cut w v walk spare held places marks found n) where
    -- the state of a finished position, and of another
    state_some : (p i : ℕ) → p < n → id_in t.done p ≡ Some i → get_or v p 0 ≡ i + 2
    unfolding word
    state_some p i h e = sym (state_at c p h) ∙ (a.holds.states p h ∙ rw (e, word) refl)

    state_none : (p : ℕ) → p < n → id_in t.done p ≡ None → get_or v p 0 ≡ 0
    unfolding word has
    state_none p h e = sym (state_at c p h) ∙ (a.holds.states p h ∙ rw (e, word) refl)

    sources_long : length (take m walk) ≡ m
    sources_long = let f = few a in let l = c.walk in simp length-take (omega arith)

    source_is : (k : ℕ) → k < m → get_or (take m walk) k 0 ≡ source a k
    source_is k h = let f = few a in get_or-take m walk k 0 h ∙ (sym (walk_at c k (omega arith)) ∙ (let z : n + k ≡ sources_at n + k = omega arith in rw z refl))

    pub sourced : Sourced s (take m walk) (take m held) spare
    sourced =
        let f = few a in
        let k = sources_long in
        record {
          listed = sources_listed a (take m walk) k source_is;
          as_long = (let l = c.order in let e : length (take m held) ≡ m = simp length-take (omega arith) in e ∙ sym k);
          spare = let l = c.spare in omega arith;
        }

    module _ {x : List ℕ} (one : x ≡ sorted s (take m walk)) where
      sources_are : x ≡ map (source a) o
      sources_are = one ∙ sorted_is a (take m walk) sources_long source_is

      long₁ : length x ≡ m
      long₁ = ap length sources_are ∙ (length-map o (source a) ∙ order_long)

      source₁ : (j : ℕ) → j < m → get_or x j 0 ≡ source a (get_or o j 0)
      source₁ j h = let l = order_long in ap (λ (k : List ℕ). get_or k j 0) sources_are ∙ get_d_map (source a) o j 0 0 (omega arith)

      -- the id that stands at place j of the order
      told₁ : (j : ℕ) → j < m → get_or v (get_or x j 0) 0 ≡ get_or o j 0 + 2
      told₁ j h =
          let k = id_low j h in
          rw (source₁ j h) (state_some (source a (get_or o j 0)) (get_or o j 0) (source_below a (get_or o j 0) k) (source_of a (get_or o j 0) k).own)

      pub lined : Lined v x (length places)
      lined =
          let f = few a in
          let l = long₁ in
          let y = c.places in
          record {
            few = let z = a.mapped.few in omega arith;
            some = omega arith;
            ends = λ j h. let e = told₁ j (omega arith) in let k = id_low j (omega arith) in record { below = (let b = source_below a (get_or o j 0) k in let q = source₁ j (omega arith) in let u = c.states in omega arith); ended = omega arith; id = omega arith };
            apart = λ i j h k e. let p = told₁ i (omega arith) in let q = told₁ j (omega arith) in let z = order_long in distinct_at (order_distinct t.merged) i j (omega arith) (omega arith) (omega arith);
          }

      module _ (q : List ℕ) (l₂ : length q ≡ n) (two : (j : ℕ) → j < length x → get_or q (id_at v x j) 0 ≡ j) where
        place₂ : (k : ℕ) → k < m → get_or q k 0 ≡ place_in o k
        place₂ k h =
            let j = place_low k h in
            let e = told₁ (place_in o k) j in
            let f = place_at_lem o k (in_order k h) in
            let l = long₁ in
            let z : id_at v x (place_in o k) ≡ k = omega arith in
            rw z at (two (place_in o k) (omega arith))

        -- a state that tells an id is that of a finished position
        id_of_lem : (p : ℕ) → p < n → 1 < get_or v p 0 → (i : ℕ) × ((get_or v p 0 ≡ i + 2) × (i < m))
        id_of_lem p h b = go (id_in t.done p) refl
          where
            go : (r : Option ℕ) → id_in t.done p ≡ r → (i : ℕ) × ((get_or v p 0 ≡ i + 2) × (i < m))
            go None e = absurd (let y = state_none p h e in omega arith)
            go (Some i) e = let k = a.fine.sound.named p i e in let z = a.counted in (i, (state_some p i h e, omega arith))

        pub movable : Movable v q
        movable =
            let f = few a in
            let l = c.states in
            record {
              few = let z = a.mapped.few in omega arith;
              ids = λ p h b. let (i, (e, k)) = id_of_lem p (omega arith) b in omega arith;
              places = λ p h b. let (i, (e, k)) = id_of_lem p (omega arith) b in let z : id_on v p ≡ i = omega arith in let y = place_low i k in rw (z, place₂ i k) (omega arith);
            }

        module _ {u : List ℕ} (three : u ≡ map (moved q) v) where
          state₃ : (p : ℕ) → p < n → get_or u p 0 ≡ moved q (get_or v p 0)
          state₃ p h = let l = c.states in ap (λ (k : List ℕ). get_or k p 0) three ∙ get_d_map (moved q) v p 0 0 (omega arith)

          moved_some : (p i : ℕ) → p < n → id_in t.done p ≡ Some i → get_or u p 0 ≡ place_in o i + 2
          moved_some p i h e =
              let k = a.fine.sound.named p i e in
              let y = a.counted in
              let z : i + 2 - 2 ≡ i = omega arith in
              state₃ p h ∙ rw (state_some p i h e, ← (moved_high q (i + 2) (omega arith)), z, place₂ i (omega arith)) refl

          moved_word : (p : ℕ) → p < n → get_or u p 0 ≡ carried_word o (id_in t.done p)
          unfolding carried_word
          moved_word p h = go (id_in t.done p) refl
            where
              go : (r : Option ℕ) → id_in t.done p ≡ r → get_or u p 0 ≡ carried_word o r
              go None e = state₃ p h ∙ rw (state_none p h e, ← (moved_low q 0 (omega arith))) refl
              go (Some i) e = moved_some p i h e

          module _ (table roots : List ℕ) (long : length roots ≡ root_sum table) (ended : (x : ℕ) → Memᴰ x (starts table roots) → Finished t x) where
            root_word : (x : ℕ) → Memᴰ x (starts table roots) → (i : ℕ) × ((id_in t.done x ≡ Some i) × ((get_or u x 0 ≡ place_in o i + 2) × (i < m)))
            root_word x h = let (i, e) = in_id_in t.done x (ended x h) in let k = a.fine.sound.named x i e in let z = a.counted in (i, (e, (moved_some x i (a.fine.within x (ended x h)) e, omega arith)))

            root_ends : (x : ℕ) → Memᴰ x (starts table roots) → Ends u (length marks) x
            root_ends x h =
                let (i, (e, (f, k))) = root_word x h in
                let z = place_low i k in
                let y = few a in
                let l = c.listed in
                record { below = (let b = a.fine.within x (ended x h) in let d = c.states in let r = ap length three ∙ length-map v (moved q) in omega arith); ended = omega arith; id = omega arith }

            pub rooted : Rooted table roots u marks found
            rooted =
                let l = c.listed in
                record {
                  long = long;
                  ends = root_ends;
                  blank = λ i h. sym (mark_at c i (omega arith)) ∙ a.zeros (listed_at n + i) (omega arith);
                  room = let k = cut_long c in let f = a.mapped.room in omega arith;
                }

            mentioned_is : mentioned u (starts table roots) ≡ firsts [] (map (carried t o) (starts table roots))
            unfolding mentioned carried
            mentioned_is = ap (firsts []) (map_agree (id_on u) (carried t o) (starts table roots) (λ x h. let (i, (e, (f, k))) = root_word x h in rw (e, carried) (omega arith)))

            module _ (z : List ℕ) {w₄ y b f : List ℕ} {r : ℕ} (d : Cut w₄ u walk y (x ++ z) q b f n) (l₄ : length f ≡ length found) (four : Mentions table roots u b f r) where
              base₄ : (p : ℕ) → p < n → get_or w₄ (bases_at n + p) 0 ≡ get_or w (bases_at n + p) 0
              base₄ p h = let e : bases_at n + p ≡ n + (n + p) = omega arith in rw e (walk_at d (n + p) (omega arith) ∙ sym (walk_at c (n + p) (omega arith)))

              source₄ : (j : ℕ) → j < m → get_or w₄ (order_at n + j) 0 ≡ source a (get_or o j 0)
              source₄ j h = let e = few a in let l = long₁ in place_at d j (omega arith) ∙ (get_or_append_left x z 0 j (omega arith) ∙ source₁ j h)

              pub settled : Settled s w₄ n m r g (starts table roots) t
              settled = record {
                mapped = record {
                  counted = a.mapped.counted;
                  few = a.mapped.few;
                  room = let e = a.mapped.room in let h = cut_long c in let l = cut_long d in omega arith;
                  long = a.mapped.long;
                  nodes = λ p h. rw (base₄ p h) (a.mapped.nodes p h);
                  fit = a.mapped.fit;
                  inside = a.mapped.inside;
                  bare = a.mapped.bare;
                };
                fine = a.fine;
                nodes = sym order_long;
                few = few a;
                sources = λ j h. rw (source₄ j h) (source_of a (get_or o j 0) (id_low j h));
                ids = λ p h. state_at d p h ∙ moved_word p h;
                roots = roots_at d r ∙ (four.put ∙ mentioned_is);
                listed = four.count ∙ ap length mentioned_is;
                less = let e = four.few in let h = d.listed in omega arith;
              }
