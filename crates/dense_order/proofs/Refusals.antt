-- Validate's answer by its checks, one after the other.
-- Assumes nothing.
use Prim.Native.Nat.{ℕ, ◌/◌, ◌%◌, ◌<◌, ◌≤◌}
use mathlib.Core.Path.{◌≡◌, refl, sym, ◌∙◌, ap}
use mathlib.Core.List.{List, [], ◌∷◌}
use Rattle.std.specs.Prelude.{Option, Some, None, Ok, Err}
use borrow.Author.Tests.{lt-ltb, le-ltb, eq-eqb, ne_eqb}
use lib.ListN.{length}
use Rattle.record.specs.Node.{size, nodes_of, bad}
use Rattle.forest.specs.Lists.{lowest}
use Rattle.forest.specs.Lent.{most, when, naming, first}
use Rattle.forest.specs.Validate.{bad_record, node_faults, validate_refusals, or_accepted, validate}
use Rattle.forest.specs.declared.Reply.{Reply}
use Rattle.forest.specs.declared.Reply.TheVariants.{Accepted, BadBuffers, TooMany, BadRecord}
use Rattle.dense_order.specs.Found.{Checked, check_of}
use Rattle.dense_order.proofs.Options.{refused_some, passed_none}

-- WHAT IS SAID OF THE RECORDS ---------------------------------------------------------------------

-- if the rest says r first, r may stand in its place
stands_for : (o : Option Reply) (os : List (Option Reply)) (r : Reply) → first os ≡ Some r → first (o ∷ Some r ∷ []) ≡ first (o ∷ os)
unfolding first
stands_for None os r e = sym e
stands_for (Some q) os r e = refl

module _ (b : List ℕ) where
  -- the lowest bad record goes before all else
  pub record_bad : (i : ℕ) (os : List (Option Reply)) → (lowest bad (nodes_of b)) ≡ Some i → Err (BadRecord i) ≡ check_of (first (bad_record b ∷ os))
  unfolding bad_record naming first check_of
  record_bad i os e = rw (sym refl ∙ e)

  no_bad : (os : List (Option Reply)) → (lowest bad (nodes_of b)) ≡ None → first (bad_record b ∷ os) ≡ first os
  unfolding bad_record naming first
  no_bad os e = rw (sym refl ∙ e)

  pub found_refused : (r : Reply) → (lowest bad (nodes_of b)) ≡ None → Err r ≡ check_of (first (bad_record b ∷ Some r ∷ []))
  unfolding first check_of
  found_refused r e = rw (no_bad (Some r ∷ []) e)

  pub order_refused : (r : Reply) (k : Checked Unit) → Err r ≡ check_of (first (node_faults (nodes_of b))) → k ≡ check_of (first (bad_record b ∷ Some r ∷ []))
      → k ≡ check_of (first (bad_record b ∷ node_faults (nodes_of b)))
  order_refused r k e f = f ∙ ap check_of (stands_for (bad_record b) (node_faults (nodes_of b)) r (refused_some _ r (sym e)))

  pub both_passed : (lowest bad (nodes_of b)) ≡ None → (Ok tt) ≡ check_of (first (node_faults (nodes_of b))) → (Ok tt) ≡ check_of (first (bad_record b ∷ node_faults (nodes_of b)))
  both_passed e f = rw (no_bad (node_faults (nodes_of b)) e) f

-- VALIDATE ----------------------------------------------------------------------------------------

module _ (b : List ℕ) where
  pub too_many : most < length b / size → TooMany ≡ validate b
  unfolding validate validate_refusals when first or_accepted
  too_many h = rw (lt-ltb most (length b / size) h)

  module _ (few : length b / size ≤ most) where
    pub part_record : (length b % size ≡ 0 → ⊥) → BadBuffers 2 ≡ validate b
    unfolding validate validate_refusals when first or_accepted
    part_record h = rw (le-ltb most (length b / size) few, ne_eqb (length b % size) 0 h)

    module _ (whole : length b % size ≡ 0) where
      checked : validate b ≡ or_accepted (length b / size) (first (bad_record b ∷ node_faults (nodes_of b)))
      unfolding validate validate_refusals when first
      checked = rw (le-ltb most (length b / size) few, eq-eqb (length b % size) 0 whole)

      pub records_refused : (r : Reply) → check_of (first (bad_record b ∷ node_faults (nodes_of b))) ≡ Err r → r ≡ validate b
      unfolding or_accepted
      records_refused r e = rw (checked, refused_some (first (bad_record b ∷ node_faults (nodes_of b))) r e)

      pub records_passed : check_of (first (bad_record b ∷ node_faults (nodes_of b))) ≡ (Ok tt) → Accepted (length b / size) 0 ≡ validate b
      unfolding or_accepted
      records_passed e = rw (checked, passed_none (first (bad_record b ∷ node_faults (nodes_of b))) e)
