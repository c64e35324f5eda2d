-- Canonicalize's outcome by its steps: sizes, the forest, the outputs.
-- Assumes nothing.
use Prim.Native.Nat.{ℕ, ◌+◌, ◌*◌, ◌/◌, ◌%◌, ◌≤◌}
use mathlib.Core.Path.{◌≡◌, refl, sym, ◌∙◌, ap}
use mathlib.Core.Bool.{true, false}
use mathlib.Core.List.{List, [], ◌++◌, append-nil}
use Rattle.std.specs.Prelude.{Option, None, Ok, Err}
use native.Mathlib.Omega.{arith}
use borrow.Author.Tests.{ltb-false, eqb-true, not-false}
use lib.ListN.{length, replicate, length-map, drop_of_length-le}
use Rattle.record.specs.Lists.{over}
use Rattle.record.specs.Node.{size, nodes_of}
use Rattle.record.proofs.Basics.{either_false}
use Rattle.forest.specs.Canonicalize.{root_range, child_range, canonicalize_checks, disorders, canonicalize_refusals, canonical, canonicalize}
use Rattle.forest.specs.Lent.{Outcome, work_words, most, leaves_work, worked, refuse, accept, first, answered}
use Rattle.forest.specs.Lists.{has}
use Rattle.forest.specs.Order.{order, arranged}
use Rattle.forest.specs.Validate.{bad_record}
use Rattle.forest.specs.declared.Reply.{Reply}
use Rattle.forest.specs.declared.Reply.TheVariants.{Accepted, BadBuffers, TooMany, BadRecord, RootRange, DuplicateExternal, ChildRange, Cycle}
use Rattle.claims.specs.Checks.{first_none, when_none}
use Rattle.claims.specs.Leaves.{Leaving, leaving_nil, leaving_when, leaving_naming, accepted_clears, first_stops, refused_is, accepted_is}
use Rattle.claims.specs.Settled.{answered_past}
use Rattle.room.proofs.Spans.{span_length}
use Rattle.dense_order.specs.Found.{Checked, check_of}
use Rattle.dense_order.specs.Steps.{Fitting, size_checks, forest_checks, Answers, Deliverable, Delivered}
use Rattle.dense_order.proofs.Options.{refused_some, passed_none}

-- WHAT A REFUSAL DOES TO THE WORK ROOM ------------------------------------------------------------

sizes_leave : (s rs a b c w : ℕ) → Leaving true (size_checks s rs a b c w)
unfolding size_checks leaves_work has
sizes_leave s rs a b c w =
    leaving_when true _ TooMany _ refl
    (leaving_when true _ (BadBuffers 2) _ refl
    (leaving_when true _ (BadBuffers 4) _ refl
    (leaving_when true _ (BadBuffers 5) _ refl
    (leaving_when true _ (BadBuffers 6) _ refl
    (leaving_when true _ (BadBuffers 7) _ refl (leaving_nil true))))))

forest_clears : (s rs : List ℕ) → Leaving false (forest_checks s rs)
unfolding forest_checks bad_record root_range disorders child_range leaves_work has
forest_clears s rs =
    leaving_naming false BadRecord _ _ (λ p. refl)
    (leaving_naming false RootRange _ _ (λ p. refl)
    (leaving_naming false DuplicateExternal _ _ (λ p. refl)
    (leaving_naming false (λ e. ChildRange e.0 e.1) _ _ (λ p. refl)
    (leaving_naming false Cycle _ _ (λ p. refl) (leaving_nil false)))))

-- THE OUTCOME -------------------------------------------------------------------------------------

-- writing over all of a list
over_whole : (l new : List ℕ) → length new ≡ length l → over l 0 new ≡ new
unfolding over
over_whole l new e = rw (drop_of_length-le l {i = 0 + length new} (omega arith), append-nil)

-- lengths that the checks of sizes let pass
pub record Sized (s rs a b c w : List ℕ) : Type 0 where
  pub few : length s / size ≤ most
  pub whole : size * (length s / size) ≡ length s
  pub records : length a ≡ size * (length s / size)
  pub starts : length b ≡ length rs
  pub list : length c ≡ length s / size
  pub room : work_words * (length s / size) ≤ length w

module _ (s rs a b c w : List ℕ) where
  -- the checks of sizes for these buffers
  abbrev sizes : List (Option Reply)
  sizes = size_checks (length s) (length rs) (length a) (length b) (length c) (length w)

  -- Canonicalize of these buffers
  abbrev called : Outcome
  called = canonicalize (record { table = []; nodes = s; roots = rs }) (record { nodes = a; roots = b; ids = c; work = w })

  by_steps : called ≡ answered (record { nodes = a; roots = b; ids = c; work = w }) (sizes ++ forest_checks s rs) (canonical (nodes_of s) rs)
  unfolding canonicalize canonicalize_refusals canonicalize_checks size_checks forest_checks
  by_steps = refl

  sized : first sizes ≡ None → Sized s rs a b c w
  unfolding size_checks
  sized e =
      let (e1, r1) = first_none _ _ e in
      let (e2, r2) = first_none _ _ r1 in
      let (e3, r3) = first_none _ _ r2 in
      let (e4, r4) = first_none _ _ r3 in
      let (e5, r5) = first_none _ _ r4 in
      let (e6, r6) = first_none _ _ r5 in
      let part : length s % size ≡ 0 = eqb-true _ _ (not-false _ (when_none _ _ e2)) in
      let x : length a ≡ length s = eqb-true _ _ (not-false _ (when_none _ _ e3)) in
      record {
        few = ltb-false _ _ (either_false _ _ (when_none _ _ e1)).0;
        whole = omega arith;
        records = omega arith;
        starts = eqb-true _ _ (not-false _ (when_none _ _ e4));
        list = eqb-true _ _ (not-false _ (when_none _ _ e5));
        room = ltb-false _ _ (when_none _ _ e6);
      }

  -- q is the answer to the checks of sizes
  module _ (q : Checked Unit) (said : q ≡ check_of (first sizes)) where
    pub sizes_refused : (r : Reply) → q ≡ Err r → called ≡ record { reply = r; room = record { nodes = a; roots = b; ids = c; work = w } }
    unfolding refuse worked
    sizes_refused r e =
        let f = refused_some (first sizes) r (sym said ∙ e) in
        by_steps
        ∙ (refused_is _ _ _ r (first_stops sizes (forest_checks s rs) r f)
        ∙ rw (sizes_leave (length s) (length rs) (length a) (length b) (length c) (length w) r f, worked))

    module _ (passed : q ≡ (Ok tt)) where
      fits : first sizes ≡ None
      fits = passed_none (first sizes) (sym said ∙ passed)

      pub lengths : Sized s rs a b c w
      lengths = sized fits

      pub fitting : {w₁ : List ℕ} → length w₁ ≡ length w → Fitting s w₁ (length s / size)
      fitting l = record { counted = refl; few = lengths.few; room = rw l lengths.room }

      -- t is the answer to the checks of the forest, w₁ the room after them
      module _ {w₁ : List ℕ} (long : length w₁ ≡ length w) (t : Checked Unit) (told : Answers (forest_checks s rs) s w₁ (length s / size) t) where
        pub deliverable : t ≡ (Ok tt) → Deliverable s rs w₁ (length s / size)
        deliverable e =
            let p = passed_none (first (forest_checks s rs)) (sym told.answer ∙ e) in
            record { whole = lengths.whole; fitting = fitting long; passed = p; arranged = told.arranged p }

        module _ {z : List ℕ} (zeros : z ≡ replicate (length w₁) 0) where
          pub forest_refused : (r : Reply) → t ≡ Err r → called ≡ record { reply = r; room = record { nodes = a; roots = b; ids = c; work = z } }
          unfolding refuse worked
          forest_refused r e =
              let f = refused_some (first (forest_checks s rs)) r (sym told.answer ∙ e) in
              by_steps ∙ (answered_past _ sizes (forest_checks s rs) _ fits ∙ (refused_is _ _ _ r f ∙ rw (forest_clears s rs r f, worked, zeros, long)))

          pub all_passed : {a' b' c' : List ℕ} → t ≡ (Ok tt) → length a' ≡ length a → length b' ≡ length b → Delivered s rs a' b' c'
              → called ≡ record { reply = Accepted (length s / size) (length rs); room = record { nodes = a'; roots = b'; ids = c'; work = z } }
          unfolding accept canonical arranged
          all_passed {a'} {b'} {c'} e x y d =
              let v = deliverable e in
              let n : length (order (nodes_of s)) ≡ length s / size = let r = v.fitting.room in ap length (sym v.arranged.whole) ∙ omega (arith, span_length w₁ 0 (length s / size) (omega arith)) in
              let l : length b' ≡ length rs = y ∙ lengths.starts in
              by_steps
              ∙ (answered_past _ sizes (forest_checks s rs) _ fits
              ∙ (accepted_is _ _ _ v.passed
              ∙ rw (accepted_clears _ _ w, ← d.nodes, ← d.roots, ← d.ids_are, over_whole a a' x, over_whole b b' y, zeros, long, length-map, n, l)))
