-- Merge's checks of records and ranges, one after the other.
-- Assumes nothing.
use Prim.Native.Nat.{ℕ}
use mathlib.Core.Path.{◌≡◌, sym, ◌∙◌}
use mathlib.Core.List.{List, [], ◌∷◌}
use Rattle.std.specs.Prelude.{Option, Some, None, Ok, Err}
use Rattle.record.specs.Node.{nodes_of, bad, rows_of}
use Rattle.record.specs.declared.Node.{Node}
use Rattle.record.proofs.Basics.{clash}
use Rattle.forest.specs.Canonicalize.{root_range, child_range}
use Rattle.forest.specs.Graph.{forests, far_root, far_child}
use Rattle.forest.specs.Lent.{Input, naming, first}
use Rattle.forest.specs.Lists.{lowest}
use Rattle.forest.specs.Merge.{forests_of}
use Rattle.forest.specs.Validate.{bad_record}
use Rattle.forest.specs.declared.Reply.TheVariants.{BadRecord, RootRange, ChildRange}
use Rattle.dense_order.specs.Found.{check_of}
use Rattle.merger.specs.Steps.{range_checks}

module _ (t s rs : List ℕ) where
  -- these three buffers
  abbrev lent : Input
  lent = record { table = t; nodes = s; roots = rs }

  -- q is the answer to the search for a bad record
  module _ (q : Option ℕ) (said : q ≡ (lowest bad (nodes_of s))) where
    pub record_refused : (p : ℕ) → q ≡ Some p → Err (BadRecord p) ≡ check_of (first (range_checks lent))
    unfolding range_checks bad_record naming first check_of
    record_refused p e = rw (sym said ∙ e)

    -- there is none; u is the answer to the search for a far root
    module _ (good : q ≡ None) (u : Option ℕ) (says : (ns : List Node) → u ≡ (far_root (forests 0 (rows_of t) ns rs))) where
      none_bad : lowest bad (nodes_of s) ≡ None
      none_bad = (sym said ∙ good)

      pub root_refused : (k : ℕ) → u ≡ Some k → Err (RootRange k) ≡ check_of (first (range_checks lent))
      unfolding range_checks bad_record root_range forests_of naming first check_of
      root_refused k e = rw (none_bad, (sym (says (nodes_of s)) ∙ e))

      -- there is none; v is the answer to the search for a far child
      module _ (near : u ≡ None) (v : Option (ℕ × ℕ)) (tells : (rs : List ℕ) → v ≡ (far_child (forests 0 (rows_of t) (nodes_of s) rs))) where
        none_far : far_root (forests 0 (rows_of t) (nodes_of s) rs) ≡ None
        none_far = (sym (says (nodes_of s)) ∙ near)

        pub child_refused : (p c : ℕ) → v ≡ Some (p, c) → Err (ChildRange p c) ≡ check_of (first (range_checks lent))
        unfolding range_checks bad_record root_range child_range forests_of naming first check_of
        child_refused p c e = rw (none_bad, none_far) (go (far_child (forests 0 (rows_of t) (nodes_of s) rs)) (tells rs))
          where
            go : (o : Option (ℕ × ℕ)) → v ≡ o → Err (ChildRange p c) ≡ check_of (first (naming (λ e. ChildRange e.0 e.1) o ∷ []))
            go None z = absurd (clash cc)
            go (Some d) z = cc

        pub ranges_passed : v ≡ None → (Ok tt) ≡ check_of (first (range_checks lent))
        unfolding range_checks bad_record root_range child_range forests_of naming first check_of
        ranges_passed e = rw (none_bad, none_far, (sym (tells rs) ∙ e))
