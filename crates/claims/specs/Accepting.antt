-- Canonicalize, its checks met, accepts exactly if the forest is orderly.
-- Assumes nothing.
use Rattle.std.specs.Prelude.{ℕ, ◌<◌, ◌≡◌, refl, true, ◌↔◌, leb, length, Option, Some, None}
use Rattle.std.proofs.Math.Path.{sym}
use Rattle.std.proofs.Common.{◌∙◌, arith}
use Rattle.std.proofs.Math.Bool.{not}
use mathlib.Core.List.Memᴰ
use mathlib.Core.List.{List, [], Memᴰ, append-nil}
use Rattle.std.proofs.Math.Decide.{dec_lt}
use borrow.Author.Tests.{leb-false, not-false, lt-leb}
use Rattle.record.specs.Lists.{flat}
use Rattle.record.specs.Node.{nodes_of, children}
use Rattle.record.specs.declared.Node.{Node}
use Rattle.record.proofs.Nodes.{not_internal}
use Rattle.forest.specs.Canonicalize.{alone, child_range, canonicalize_checks, disorders, canonicalize_refusals, canonical, canonicalize}
use Rattle.forest.specs.Graph.{far_kid, far_child, no_node, at}
use Rattle.forest.specs.Lent.{Input, Room, refuse, accept, naming, first, answered}
use Rattle.forest.specs.Lists.{has}
use Rattle.forest.specs.Order.{ids, externals, begun, order, unreleased, repeat}
use Rattle.forest.specs.Validate.{bad_record}
use Rattle.forest.specs.declared.Reply.{Reply}
use Rattle.claims.specs.Checks.{first_none, naming_none}
use Rattle.claims.specs.Children.{parent_in, no_child_out, Bare}
use Rattle.claims.specs.Externals.{apart, externals_strict, repeat_none}
use Rattle.claims.specs.Origins.{proper_bare, records_proper}
use Rattle.claims.specs.PathLaws.{Ends, ends, ends_acyclic}
use Rattle.claims.specs.Paths.{HasChild, Orderly}
use Rattle.claims.specs.Refusals.{first_refuses, disorders_refuse, canonicalize_refuses, IsAccepted, accepted_past}
use Rattle.claims.specs.Releases.{released_queue, queue_ends, in_externals, externals_in, externals_distinct, begun_in, order_all}
use Rattle.claims.specs.Searches.{has_in, lowest_none, last_of_none, none_lowest, none_last_of, first_some_none, none_first_some, mem_at}
use Rattle.claims.specs.Settled.{answered_past}
use Rattle.claims.specs.Sorts.{run_in, in_run}

module _ (g : List Node) where
  -- CHILDREN IN RANGE

  pub far_inside : far_child (alone g []) ≡ None → (p c : ℕ) → HasChild g p c → c < length g
  unfolding far_child alone flat far_kid
  far_inside e p c k = leb-false (length g) c (last_of_none (leb (length g)) (children (at g p)) (first_some_none 0 _ e _ (Memᴰ.append_left [] (Memᴰ.map (far_kid (length g)) (parent_in g p c k)))) c k)

  inside_far : ((p c : ℕ) → HasChild g p c → c < length g) → far_child (alone g []) ≡ None
  unfolding far_child alone flat far_kid at
  inside_far h = none_first_some 0 _ (λ o m. from o (Memᴰ.of_map (far_kid (length g)) g (rw append-nil at m)))
    where
      from : (o : Option ℕ) → (n : Node) × Memᴰ n g × (far_kid (length g) n ≡ o) → o ≡ None
      from o (n, m, e) = let (p, q) = mem_at no_node m in sym e ∙ none_last_of (leb (length g)) (children n) (λ c k. lt-leb (length g) c (h p c (rw q k)))

  -- CYCLES
  pub unreleased_all : unreleased g ≡ None → (x : ℕ) → x < length g → Memᴰ x (order g)
  unfolding unreleased ids
  unreleased_all e x h = has_in x (order g) (not-false _ (lowest_none (λ p. not (has p (order g))) (ids g) e x (in_run 0 (length g) x (omega arith) (omega arith))))

  all_ends : Bare g → unreleased g ≡ None → (x : ℕ) → Ends (HasChild g) x
  unfolding order Bare
  all_ends bare e x = go (dec_lt x (length g))
    where
      first_ones : (y : ℕ) → Memᴰ y (begun g) → Ends (HasChild g) y
      first_ones y m = ends (λ c k. absurd (not_internal (at g y) (begun_in g y m).0 (bare y c k)))

      go : Dec (x < length g) → Ends (HasChild g) x
      go (yes h) = queue_ends g (released_queue g (length g) (begun g)) first_ones x (unreleased_all e x h)
      go (no h) = ends (λ c k. absurd (no_child_out g x c (omega arith) k))

  all_released : ((x : ℕ) → x < length g → has x (order g) ≡ true) → unreleased g ≡ None
  unfolding unreleased ids
  all_released h = none_lowest _ (ids g) (λ x m. let (a, b) = run_in 0 (length g) x m in rw (h x (omega arith)))

  -- THE TWO DIRECTIONS
  pub faults_orderly : Bare g → first (disorders g) ≡ None → Orderly g
  unfolding disorders child_range
  faults_orderly bare e =
      let (a, e1) = first_none _ _ e in
      let (b, e2) = first_none _ _ e1 in
      let (c, e3) = first_none _ _ e2 in
      let r : repeat g (externals g) ≡ None = naming_none _ _ a in
      record {
        differ = λ p q u v x y h. apart g (externals g) (externals_strict g r) p q (in_externals g p u x) (in_externals g q v y) h;
        inside = far_inside (naming_none _ _ b);
        acyclic = λ p s. ends_acyclic (all_ends bare (naming_none _ _ c) p) s;
      }

  pub orderly_faults : Orderly g → first (disorders g) ≡ None
  unfolding disorders naming first child_range
  orderly_faults o =
      let a : repeat g (externals g) ≡ None = repeat_none g (externals g) (externals_distinct g) (λ p q m n h. let (x, u) = externals_in g p m in let (y, v) = externals_in g q n in o.differ p q u v x y h) in
      let b : far_child (alone g []) ≡ None = inside_far o.inside in
      let c : unreleased g ≡ None = all_released (order_all g o.inside o.acyclic) in
      rw (a, b, c)

-- what Canonicalize is given past its checks
pub canonicalize_past : (i : Input) (m : Room) → first (canonicalize_checks i m) ≡ None → canonicalize i m ≡ answered m (disorders (nodes_of i.nodes)) (canonical (nodes_of i.nodes) i.roots)
unfolding canonicalize canonicalize_refusals
canonicalize_past i m e = answered_past m (canonicalize_checks i m) _ _ e

pub canonicalize_cleared : (i : Input) (m : Room) → IsAccepted (canonicalize i m) → first (canonicalize_refusals i m) ≡ None
unfolding canonicalize
canonicalize_cleared i m a = accepted_past m _ (canonical (nodes_of i.nodes) i.roots) (canonicalize_refuses i m) a

pub checks_good : (i : Input) (m : Room) → first (canonicalize_checks i m) ≡ None → bad_record i.nodes ≡ None
unfolding canonicalize_checks
checks_good i m e =
    let e1 = (first_none _ _ e).1 in
    let e2 = (first_none _ _ e1).1 in
    let e3 = (first_none _ _ e2).1 in
    let e4 = (first_none _ _ e3).1 in
    let e5 = (first_none _ _ e4).1 in
    let e6 = (first_none _ _ e5).1 in
    (first_none _ _ e6).0

pub records_bare : (s : List ℕ) → bad_record s ≡ None → Bare (nodes_of s)
records_bare s e = proper_bare (nodes_of s) (records_proper s e)

-- With the checks before it met, Canonicalize is accepted exactly if external digests differ, children are in range and no cycle runs through children
pub accepted_exactly_if : (i : Input) (m : Room) → first (canonicalize_checks i m) ≡ None → IsAccepted (canonicalize i m) ↔ Orderly (nodes_of i.nodes)
unfolding answered accept refuse
accepted_exactly_if i m e = (to, from)
  where
    g : List Node
    g = nodes_of i.nodes

    to : IsAccepted (canonicalize i m) → Orderly g
    to a = go (first (disorders g)) refl
      where
        go : (o : Option Reply) → first (disorders g) ≡ o → Orderly g
        go None q = faults_orderly g (records_bare i.nodes (checks_good i m e)) q
        go (Some r) q = absurd (first_refuses (disorders_refuse g) r q a.nodes a.roots (let z = a.says in rw (canonicalize_past i m e, q, answered) at z))

    from : Orderly g → IsAccepted (canonicalize i m)
    from o = record { nodes = length (canonical g i.roots).nodes; roots = length (canonical g i.roots).roots; says = rw (canonicalize_past i m e, orderly_faults g o, answered) }
