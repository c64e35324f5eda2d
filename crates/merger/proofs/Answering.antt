-- Merge's outcome by its steps: sizes, what is merged in the room, the outputs.
-- Assumes nothing.
use Prim.Native.Nat.{ℕ, ◌*◌, ◌/◌, ◌≤◌}
use mathlib.Core.Path.{◌≡◌, refl, sym, ◌∙◌, ap}
use mathlib.Core.Bool.{true, false}
use mathlib.Core.List.{List, ◌∷◌, ◌++◌}
use Rattle.std.specs.Prelude.{Option, Some, None, Ok, Err}
use native.Mathlib.Omega.{arith}
use lib.Dec.{ltb}
use borrow.Author.Tests.{ltb-false}
use lib.ListN.{length, replicate}
use Rattle.record.specs.Node.{size}
use Rattle.record.specs.declared.Node.{Node}
use Rattle.record.proofs.Basics.{clash, either_false}
use Rattle.forest.specs.Canonicalize.{root_range, child_range}
use Rattle.forest.specs.Lent.{Input, Room, Outcome, Result, leaves_work, worked, refuse, accept, first, answered}
use Rattle.forest.specs.Lists.{has}
use Rattle.forest.specs.Merge.{node_sum, graph, roots_of, merge_checks, stopped, state_of, short, merge_refusals, merge}
use Rattle.forest.specs.Validate.{bad_record}
use Rattle.forest.specs.Walk.{State, Walked, going, cycle, deep}
use Rattle.forest.specs.declared.Reply.{Reply}
use Rattle.forest.specs.declared.Reply.TheVariants.{Accepted, BadBuffers, TooMany, BadRecord, RootRange, ChildRange, Cycle, TooDeep, NoRoom, BadLimit}
use Rattle.claims.specs.Checks.{first_none, when_none, first_both}
use Rattle.claims.specs.Leaves.{Leaving, leaving_nil, leaving_when, leaving_naming, accepted_clears, first_stops, refused_is, accepted_is}
use Rattle.claims.specs.Settled.{answered_past}
use Rattle.dense_order.specs.Found.{Checked, check_of}
use Rattle.dense_order.proofs.Options.{refused_some, passed_none}
use Rattle.merger.specs.Settling.{Settled, Delivered}
use Rattle.merger.specs.Settling as settling
use Rattle.merger.specs.Steps.{size_checks, range_checks, walk_checks, later_checks, walk_of, result_of, Sized, joined_of, Joins}
use Rattle.merger.proofs.Passing.{sizes_fit}

-- WHAT A REFUSAL DOES TO THE WORK ROOM ------------------------------------------------------------

sizes_leave : (limit : ℕ) (t : List ℕ) (s rs c w : ℕ) → Leaving true (size_checks limit t s rs c w)
unfolding size_checks leaves_work has
sizes_leave limit t s rs c w =
    leaving_when true _ BadLimit _ refl
    (leaving_when true _ TooMany _ refl
    (leaving_when true _ (BadBuffers 1) _ refl
    (leaving_when true _ (BadBuffers 2) _ refl
    (leaving_when true _ (BadBuffers 3) _ refl
    (leaving_when true _ (BadBuffers 6) _ refl
    (leaving_when true _ (BadBuffers 7) _ refl (leaving_nil true)))))))

stopped_clears : (o : Walked) (os : List (Option Reply)) → Leaving false os → Leaving false (stopped o ∷ os)
unfolding stopped first leaves_work has
stopped_clears (going s) os l r e = l r e
stopped_clears (cycle p) os l r e = let q : Cycle p ≡ r = cc in ap leaves_work (sym q)
stopped_clears (deep p) os l r e = let q : TooDeep p ≡ r = cc in ap leaves_work (sym q)

later_clears : (limit : ℕ) (i : Input) (records starts : ℕ) → Leaving false (later_checks limit i records starts)
unfolding range_checks walk_checks bad_record root_range child_range leaves_work has
later_clears limit i records starts =
    leaving_naming false BadRecord _ _ (λ p. refl)
    (leaving_naming false RootRange _ _ (λ p. refl)
    (leaving_naming false (λ e. ChildRange e.0 e.1) _ _ (λ p. refl)
    (stopped_clears (walk_of limit i) _
    (leaving_when false _ (NoRoom _ _) _ refl (leaving_nil false)))))

-- THE ANSWER OF WHAT IS MERGED --------------------------------------------------------------------

joined_some : (o : Option Reply) (x : Result) (r : Reply) → joined_of o x ≡ Err r → o ≡ Some r
unfolding joined_of
joined_some None x r e = absurd (clash cc)
joined_some (Some q) x r e = cc

joined_none : (o : Option Reply) (x : Result) (n k : ℕ) → joined_of o x ≡ Ok (n, k) → (o ≡ None) × (length x.nodes ≡ n) × (length x.roots ≡ k)
unfolding joined_of
joined_none None x n k e = let q : (length x.nodes, length x.roots) ≡ (n, k) = cc in (refl, ap (λ (a : ℕ × ℕ). a.0) q, ap (λ (a : ℕ × ℕ). a.1) q)
joined_none (Some q) x n k e = absurd (clash cc)

-- THE OUTCOME -------------------------------------------------------------------------------------

module _ (limit : ℕ) (t s rs a b c w : List ℕ) where
  -- the buffers that are read and those that are written
  abbrev lent : Input
  lent = record { table = t; nodes = s; roots = rs }

  abbrev given : Room
  given = record { nodes = a; roots = b; ids = c; work = w }

  -- the checks of sizes for these buffers, and those behind them
  abbrev sizes : List (Option Reply)
  sizes = size_checks limit t (length s) (length rs) (length c) (length w)

  abbrev later : List (Option Reply)
  later = later_checks limit lent (length a / size) (length b)

  -- Merge of these buffers
  abbrev called : Outcome
  called = merge limit lent given

  by_steps : called ≡ answered given (sizes ++ later) (result_of limit lent)
  unfolding merge merge_refusals merge_checks size_checks range_checks walk_checks walk_of result_of short
  by_steps = refl

  -- q is the answer to the checks of sizes
  module _ (q : Checked Unit) (said : q ≡ check_of (first sizes)) where
    pub sizes_refused : (r : Reply) → q ≡ Err r → called ≡ record { reply = r; room = record { nodes = a; roots = b; ids = c; work = w } }
    unfolding refuse worked
    sizes_refused r e =
        let f = refused_some (first sizes) r (sym said ∙ e) in
        by_steps ∙ (refused_is _ _ _ r (first_stops sizes later r f) ∙ rw (sizes_leave limit t (length s) (length rs) (length c) (length w) r f, worked))

    module _ (passed : q ≡ (Ok tt)) where
      fits : first sizes ≡ None
      fits = passed_none (first sizes) (sym said ∙ passed)

      pub sized : Sized limit lent w
      sized = record { room = given; long = refl; passes = fits }

      -- u is the answer of what is merged, w₁ the room after it
      module _ {w₁ : List ℕ} (long : length w₁ ≡ length w) (u : Checked (ℕ × ℕ)) (told : Joins limit lent (length a / size) (length b) w₁ (length s / size) u) where
        pub later_refused : {z : List ℕ} → z ≡ replicate (length w₁) 0 → (r : Reply) → u ≡ Err r → called ≡ record { reply = r; room = record { nodes = a; roots = b; ids = c; work = z } }
        unfolding refuse worked
        later_refused zeros r e =
            let f = joined_some (first later) (result_of limit lent) r (sym told.answer ∙ e) in
            by_steps ∙ (answered_past _ sizes later _ fits ∙ (refused_is _ _ _ r f ∙ rw (later_clears limit lent (length a / size) (length b) r f, worked, zeros, long)))

        module _ (n k : ℕ) (e : u ≡ Ok (n, k)) where
          free : (first later ≡ None) × (length (result_of limit lent).nodes ≡ n) × (length (result_of limit lent).roots ≡ k)
          free = joined_none (first later) (result_of limit lent) n k (sym told.answer ∙ e)

          settled : Settled s w₁ (length s / size) n k (graph lent) (roots_of lent) (state_of (walk_of limit lent))
          settled = let (f, x, y) = free in rw (x, y) at (told.settled f)

          pub deliverable : settling.Result s w₁ (length s / size) n k
          deliverable = record { graph = graph lent; starts = roots_of lent; state = state_of (walk_of limit lent); settled = settled }

          -- there is room in the outputs
          pub spacious : (size * n ≤ length a) × ((k ≤ length b) × (length c ≡ length s / size))
          unfolding walk_checks sized
          spacious =
              let (f, x, y) = free in
              let (g, h) = first_both (range_checks lent) _ f in
              let (v, o) = first_none _ _ h in
              let (l, m) = either_false (ltb (length a / size) (length (result_of limit lent).nodes)) _ (when_none _ _ (first_none _ _ o).0) in
              let p : length (result_of limit lent).nodes ≤ length a / size = ltb-false _ _ l in
              let d : length (result_of limit lent).roots ≤ length b = ltb-false _ _ m in
              let z = sizes_fit sized in
              let i : length c ≡ node_sum t = z.list in
              let j = z.nodes in
              (omega arith, (omega arith, omega arith))

          pub all_passed : {a' b' c' z : List ℕ} → z ≡ replicate (length w₁) 0
              → ((g : List Node) (ps : List ℕ) (v : State) → Settled s w₁ (length s / size) n k g ps v → Delivered g ps v a a' b b' c')
              → called ≡ record { reply = Accepted n k; room = record { nodes = a'; roots = b'; ids = c'; work = z } }
          unfolding accept result_of
          all_passed zeros delivers =
              let (f, x, y) = free in
              let d = delivers _ _ _ settled in
              by_steps ∙ (answered_past _ sizes later _ fits ∙ (accepted_is _ _ _ f ∙ rw (accepted_clears _ _ w, ← d.nodes, ← d.roots, ← d.ids_are, zeros, long, x, y)))
