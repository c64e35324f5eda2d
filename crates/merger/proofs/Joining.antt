-- Merging in the room: a refusal of records or ranges, a walk that stops, outputs that are short, or the result.
-- Assumes nothing.
use Prim.Native.Nat.{ℕ}
use mathlib.Core.Path.{◌≡◌, refl, sym, ◌∙◌}
use mathlib.Core.Bool.{true, false, ◌||◌}
use mathlib.Core.List.{List, Memᴰ}
use Rattle.std.specs.Prelude.{Some, None, Ok, Err}
use lib.Dec.{ltb}
use lib.ListN.{length, length-map}
use Rattle.record.specs.declared.Node.{Node}
use Rattle.record.proofs.Basics.{clash}
use Rattle.forest.specs.Lent.{Input, when, first}
use Rattle.forest.specs.Merge.{graph, roots_of, stopped, state_of, merged}
use Rattle.forest.specs.Order.{order, arranged}
use Rattle.forest.specs.Walk.{State, Walked, going, cycle, deep}
use Rattle.forest.specs.declared.Reply.{Reply}
use Rattle.forest.specs.declared.Reply.TheVariants as reply
use Rattle.claims.specs.Checks.{first_append}
use Rattle.claims.specs.Leaves.{first_stops}
use Rattle.claims.specs.Merges.{roots_finished}
use Rattle.claims.specs.Sound.{Finished}
use Rattle.dense_order.specs.Found.{Checked, check_of}
use Rattle.dense_order.proofs.Options.{refused_some, passed_none}
use Rattle.merger.specs.Settling.{Over, Settled}
use Rattle.merger.specs.Steps.{range_checks, walk_checks, later_checks, Sized, Past, walk_of, result_of, Ends, joined_of, Joins}
use Rattle.merger.specs.Table.{starts}
use Rattle.merger.specs.Walking.{went_of, Ended}
use Rattle.merger.proofs.Going.{on_going}
use Rattle.merger.proofs.Roots.{roots_are}

-- a walk that is refused has stopped
went_stopped : (o : Walked) (r : Reply) → went_of o ≡ Err r → stopped o ≡ Some r
unfolding went_of stopped
went_stopped (going t) r e = absurd (clash cc)
went_stopped (cycle q) r e = cc
went_stopped (deep q) r e = cc

module _ {limit : ℕ} {i : Input} (records roots n : ℕ) where
  refuses : {w₁ : List ℕ} (r : Reply) → first (later_checks limit i records roots) ≡ Some r → Joins limit i records roots w₁ n (Err r)
  unfolding joined_of
  refuses r e = record { answer = rw e; settled = λ z. absurd (clash cc) }

  -- q is the answer to the checks of records and ranges
  module _ {w : List ℕ} (sized : Sized limit i w) (q : Checked Unit) (said : q ≡ check_of (first (range_checks i))) where
    pub ranges_refused : (r : Reply) → q ≡ Err r → Joins limit i records roots w n (Err r)
    ranges_refused r e = refuses r (first_stops (range_checks i) (walk_checks limit i records roots) r (refused_some (first (range_checks i)) r (sym said ∙ e)))

    pub past : q ≡ (Ok tt) → Past limit i w
    past e = record { sized = sized; ranged = passed_none (first (range_checks i)) (sym said ∙ e) }

  -- w₁ is what the walk leaves, which answers r
  module _ {w w₁ : List ℕ} (before : Past limit i w) {r : Checked ℕ} (ends : Ends limit i w₁ n r) where
    behind : first (later_checks limit i records roots) ≡ first (walk_checks limit i records roots)
    behind = first_append (range_checks i) (walk_checks limit i records roots) before.ranged

    pub walk_refused : (v : Reply) → r ≡ Err v → Joins limit i records roots w₁ n (Err v)
    unfolding walk_checks first
    walk_refused v e = refuses v (behind ∙ rw (went_stopped (walk_of limit i) v (sym ends.answer ∙ e)) refl)

    -- it goes on to its end, with m nodes merged
    module _ (m : ℕ) (on : r ≡ Ok m) where
      ended : (t : State) → walk_of limit i ≡ going t → m ≡ length t.merged → Ended i.nodes w₁ n m (graph i) t
      ended t e l = rw l (ends.ended t e)

      all_finished : (t : State) → walk_of limit i ≡ going t → (x : ℕ) → Memᴰ x (starts i.table i.roots) → Finished t x
      unfolding walk_of
      all_finished t e x k = roots_finished (graph i) limit (roots_of i) t e x (rw (roots_are i) k)

      pub over : Over i.nodes w₁ n m (starts i.table i.roots)
      over =
          let (t, e, l) = on_going (walk_of limit i) m (sym ends.answer ∙ on) in
          record { graph = graph i; state = t; ended = ended t e l; roots = all_finished t e }

      -- w₂ is the room when the result is settled in it, with so many roots
      module _ {w₂ : List ℕ} {count : ℕ}
          (settles : (g : List Node) (t : State) → Ended i.nodes w₁ n m g t → ((x : ℕ) → Memᴰ x (starts i.table i.roots) → Finished t x)
          → Settled i.nodes w₂ n m count g (starts i.table i.roots) t) where
        -- the result is settled, and so long
        record Closed : Type 0 where
          onto : stopped (walk_of limit i) ≡ None
          nodes : length (result_of limit i).nodes ≡ m
          heads : length (result_of limit i).roots ≡ count
          settled : Settled i.nodes w₂ n m count (graph i) (roots_of i) (state_of (walk_of limit i))

        closed : Closed
        unfolding result_of state_of stopped merged arranged
        closed = from (on_going (walk_of limit i) m (sym ends.answer ∙ on))
          where
            from : (t : State) × (walk_of limit i ≡ going t) × (m ≡ length t.merged) → Closed
            from (t, e, l) =
                let z = settles (graph i) t (ended t e l) (all_finished t e) in
                record {
                  onto = rw e refl;
                  nodes = rw e (length-map (order t.merged) _ ∙ sym z.nodes);
                  heads = rw (e, roots_are i) (sym z.listed);
                  settled = rw (e, roots_are i) z;
                }

        pub cramped : (ltb records m || ltb roots count) ≡ true → Joins limit i records roots w₂ n (Err (reply.NoRoom m count))
        unfolding walk_checks first when
        cramped e = let z = closed in refuses _ (behind ∙ rw (z.onto, z.nodes, z.heads, e) refl)

        pub whole : (ltb records m || ltb roots count) ≡ false → Joins limit i records roots w₂ n (Ok (m, count))
        unfolding walk_checks first when joined_of
        whole e =
            let z = closed in
            let f : first (later_checks limit i records roots) ≡ None = behind ∙ rw (z.onto, z.nodes, z.heads, e) refl in
            record { answer = rw (f, z.nodes, z.heads); settled = λ k. rw (z.nodes, z.heads) z.settled }
