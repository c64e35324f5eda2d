-- Laws of Canonicalize's checks of a forest, one after the other, up to the room that holds its order.
-- Assumes nothing.
use Prim.Native.Nat.{ℕ, ◌/◌, ◌<◌}
use mathlib.Core.Path.{◌≡◌, ◌∙◌, sym}
use mathlib.Core.Bool.{not}
use mathlib.Core.List.{List, [], ◌∷◌, map}
use Rattle.std.specs.Prelude.{Option, Some, None, Ok, Err}
use native.Mathlib.Omega.{arith}
use native.Mathlib.Decide.{dec_lt}
use lib.Dec.{ltb, eqb}
use lib.ListN.{length, get_or, replicate, length-replicate, get_or-replicate, get_or-eq_default}
use Rattle.record.specs.Node.{size, rank, class, node_at, nodes_of, bad}
use Rattle.record.specs.declared.Class.TheVariants.{External}
use Rattle.record.specs.declared.Node.{Node}
use Rattle.record.proofs.Basics.{clash}
use Rattle.record.proofs.Nodes.{length_nodes_of}
use Rattle.forest.specs.Canonicalize.{alone, root_range, child_range, disorders}
use Rattle.forest.specs.Graph.{far_root, far_child}
use Rattle.forest.specs.Lent.{naming, first}
use Rattle.forest.specs.Lists.{lowest}
use Rattle.forest.specs.Order.{externals, unreleased, repeat}
use Rattle.forest.specs.Validate.{bad_record}
use Rattle.forest.specs.declared.Reply.{Reply}
use Rattle.forest.specs.declared.Reply.TheVariants.{BadRecord, RootRange, DuplicateExternal, ChildRange, Cycle}
use Rattle.room.specs.Sections.{span}
use Rattle.sorting.specs.Promises.{Listed}
use Rattle.sorting.specs.Digests.{less}
use Rattle.sorting.proofs.SortLaws.{sort_all}
use Rattle.sorting.proofs.Uses.{kept_listed}
use Rattle.dense_order.specs.Found.{Checked, check_of}
use Rattle.dense_order.specs.Kinds.{Ordered, of_class, Blank, Externals}
use Rattle.dense_order.specs.Steps.{Fitting, forest_checks, Answers}
use Rattle.dense_order.proofs.Gathering.{externals_class}
use Rattle.dense_order.proofs.RootRange.{far_root_is}

-- REFUSALS ----------------------------------------------------------------------------------------

pub refuses : {os : List (Option Reply)} {s w : List ℕ} {n : ℕ} (r : Reply) → first os ≡ Some r → Answers os s w n (Err r)
unfolding check_of
refuses r e = record { answer = rw e; arranged = λ z. absurd (clash cc) }

module _ (g : List Node) where
  pub duplicate : (p : ℕ) → repeat g (externals g) ≡ Some p → first (disorders g) ≡ Some (DuplicateExternal p)
  unfolding disorders naming first
  duplicate p e = rw e

  module _ (differ : repeat g (externals g) ≡ None) where
    pub too_far : (r : Option (ℕ × ℕ)) (p c : ℕ) → r ≡ (far_child (alone g [])) → r ≡ Some (p, c) → first (disorders g) ≡ Some (ChildRange p c)
    unfolding disorders child_range naming first
    too_far r p c e q = rw differ (go (far_child (alone g [])) e)
      where
        go : (o : Option (ℕ × ℕ)) → r ≡ o → first (naming (λ e. ChildRange e.0 e.1) o ∷ naming Cycle (unreleased g) ∷ []) ≡ Some (ChildRange p c)
        go None e = absurd (clash cc)
        go (Some d) e = cc

    module _ (near : far_child (alone g []) ≡ None) where
      pub cyclic : (p : ℕ) → unreleased g ≡ Some p → first (disorders g) ≡ Some (Cycle p)
      unfolding disorders child_range naming first
      cyclic p e = rw (differ, near, e)

      passing : unreleased g ≡ None → first (disorders g) ≡ None
      unfolding disorders child_range naming first
      passing e = rw (differ, near, e)

pub passes : {s w : List ℕ} {n : ℕ} {r : Option ℕ} → repeat (nodes_of s) (externals (nodes_of s)) ≡ None → far_child (alone (nodes_of s) []) ≡ None → Ordered s w n r → r ≡ None
    → Answers (disorders (nodes_of s)) s w n (Ok tt)
unfolding check_of
passes {s} {w} {n} {r} differ near o e =
    let u = (sym o.answer ∙ e) in
    record { answer = rw (passing (nodes_of s) differ near u); arranged = λ z. record { whole = o.whole u; marks = o.marks } }

-- the listed externals are numbers of nodes
pub externals_numbered : {s w : List ℕ} {n r : ℕ} → Externals s w n r → Listed s (span w 0 r)
unfolding of_class Listed
externals_numbered {s} x = rw (x.first, externals_class s) (sort_all (less s) (kept_listed s (λ p. eqb (rank (class (node_at s p))) (rank External))))

-- what the search among the listed externals says of all
module _ {s w : List ℕ} {n r : ℕ} (x : Externals s w n r) (q : Option ℕ) (said : q ≡ (repeat (nodes_of s) (span w 0 r))) where
  pub one_repeats : (p : ℕ) → q ≡ Some p → repeat (nodes_of s) (externals (nodes_of s)) ≡ Some p
  one_repeats p e = (sym (said ∙ rw x.first) ∙ e)

  pub none_repeats : q ≡ None → repeat (nodes_of s) (externals (nodes_of s)) ≡ None
  none_repeats e = (sym (said ∙ rw x.first) ∙ e)

-- RECORDS AND ROOTS -------------------------------------------------------------------------------

pub records_good : (s : List ℕ) → lowest bad (nodes_of s) ≡ None → bad_record s ≡ None
unfolding bad_record naming
records_good s e = rw e

module _ (s rs : List ℕ) where
  pub record_refused : (p : ℕ) → lowest bad (nodes_of s) ≡ Some p → first (forest_checks s rs) ≡ Some (BadRecord p)
  unfolding forest_checks bad_record naming first
  record_refused p e = rw e

  module _ {n : ℕ} (counted : n ≡ length s / size) (good-records : bad_record s ≡ None) where
    roots_are : lowest not (map (λ x. ltb x n) rs) ≡ far_root (alone (nodes_of s) rs)
    roots_are = rw (far_root_is (nodes_of s) rs, length_nodes_of s, counted)

    pub root_refused : (i : ℕ) → lowest not (map (λ x. ltb x n) rs) ≡ Some i → first (forest_checks s rs) ≡ Some (RootRange i)
    unfolding forest_checks root_range naming first
    root_refused i e = rw (good-records, ← roots_are, e)

    pub onward : {w : List ℕ} {r : Checked Unit} → lowest not (map (λ x. ltb x n) rs) ≡ None → Answers (disorders (nodes_of s)) s w n r → Answers (forest_checks s rs) s w n r
    unfolding forest_checks root_range naming first
    onward e a = record { answer = a.answer ∙ rw (good-records, ← roots_are, e); arranged = λ z. a.arranged (let y = z in rw (good-records, ← roots_are, e) at y) }

pub blank_room : {s w w₁ : List ℕ} {n : ℕ} → Fitting s w n → w₁ ≡ replicate (length w) 0 → Blank s w₁ n
blank_room {s} {w} {w₁} {n} f e = record { counted = f.counted; few = f.few; room = rw e (let z = f.room in omega (arith, length-replicate {A = ℕ} (length w) 0)); zeros = λ y. rw e (zero_at y (dec_lt y (length w))) }
  where
    zero_at : (y : ℕ) → Dec (y < length w) → get_or {A = ℕ} (replicate (length w) 0) y 0 ≡ 0
    zero_at y (yes h) = get_or-replicate (length w) y 0 0 h
    zero_at y (no h) = get_or-eq_default (replicate (length w) 0) 0 (omega (arith, length-replicate {A = ℕ} (length w) 0))
