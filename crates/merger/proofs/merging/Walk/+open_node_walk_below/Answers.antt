use Rattle.merger.proofs.Taking.{leaf_pushing, leaf_finishes, replacement_low, replacement_stops, replacement_long, replacement_ends, taking_start, child_low, child_stops, child_taken, kids_pushing, kids_finish}
use Rattle.merger.proofs.Going.{off_err}
use Rattle.merger.proofs.Holders.{said_external}
use Rattle.merger.proofs.Holding.{kept_again, stands_kept, pushing_kept, walks_kept, holds_kept}
use Rattle.merger.proofs.Opening.{opens, opens_new, takes_over, takes_met, takes_deep, takes_below}
use lib.ListN.{get_or}
use mathlib.Core.Path.{◌≡◌, ◌∙◌, refl, sym}
use native.Mathlib.Omega.{arith}
use borrow.Author.Rules.{rules}
use Prim.Native.Nat.{ℕ}
use Rattle.merger.proofs.merging.Walk.+open_node_walk_below.Goals as goal

pub open_node-returns-then-state-gt1-clause-walks : goal.open_node-returns-then-state-gt1-clause-walks
open_node-returns-then-state-gt1-clause-walks t c = λ g path u q. takes_over q _ c.requires.p_in_bounds _ c.if-state-gt1.true

pub open_node-returns-then-state-eq1-clause-walks : goal.open_node-returns-then-state-eq1-clause-walks
open_node-returns-then-state-eq1-clause-walks t c = λ g path u q. takes_met q _ c.requires.p_in_bounds _ c.if-state-eq1.true

pub open_node-returns-then-left-eq0-clause-walks : goal.open_node-returns-then-left-eq0-clause-walks
open_node-returns-then-left-eq0-clause-walks t c = λ g path u q. takes_deep q _ c.requires.p_in_bounds _ (omega arith) c.if-left-eq0.true

pub open_node-walk_below-requires : goal.open_node-walk_below-requires
open_node-walk_below-requires t c =
    let a = c.requires.somewhere in
    let z : ◌≡◌ {A = ℕ} (get_or c.args.self.now.states.now c.args.p 0) 0 = omega (arith, c.if-state-eq1.false, c.if-state-gt1.false) in
    (omega (arith), (record { graph = a.graph; path = a.path; state = a.state; new = opens_new a.stands _ c.requires.p_in_bounds z; stands = opens a.stands _ c.requires.p_in_bounds z }, c.requires.p_in_bounds))

pub open_node-returns-clause-walks : goal.open_node-returns-clause-walks
open_node-returns-clause-walks t c =
    λ g path u q.
    let z : ◌≡◌ {A = ℕ} (get_or c.args.self.now.states.now c.args.p 0) 0 = omega (arith, c.if-state-eq1.false, c.if-state-gt1.false) in
    takes_below q _ c.requires.p_in_bounds _ z (omega (arith, c.if-left-eq0.false)) (c.walk_below.ensures.walks g path u (opens q _ c.requires.p_in_bounds z) (opens_new q _ c.requires.p_in_bounds z))

pub walk_below-push-requires : goal.walk_below-push-requires
walk_below-push-requires t c =
    let a = c.requires.inside in
    record { graph = a.graph; path = a.path; state = a.state; pushing = leaf_pushing a.stands c.requires.p_in_bounds c.args.left _ c.node_at-node.ensures (sym (said_external c.node_at-node.result refl c.class_of.ensures c.eq.ensures) ∙ c.if-eq.true) _ c.replacement.ensures c.in_default.is a.new }

pub walk_below-returns-in_default-clause-walks : goal.walk_below-returns-in_default-clause-walks
walk_below-returns-in_default-clause-walks t c =
    λ g path u q new.
    leaf_finishes q c.requires.p_in_bounds c.args.left _ c.node_at-node.ensures (sym (said_external c.node_at-node.result refl c.class_of.ensures c.eq.ensures) ∙ c.if-eq.true) _ c.replacement.ensures c.in_default.is _ (c.push.ensures.came g path u (leaf_pushing q c.requires.p_in_bounds c.args.left _ c.node_at-node.ensures (sym (said_external c.node_at-node.result refl c.class_of.ensures c.eq.ensures) ∙ c.if-eq.true) _ c.replacement.ensures c.in_default.is new))

pub walk_below-open_node-requires : goal.walk_below-open_node-requires
walk_below-open_node-requires t c =
    let a = c.requires.inside in
    (omega (arith), (record { graph = a.graph; path = _; state = a.state; stands = a.stands }, replacement_low a.stands c.requires.p_in_bounds c.args.left _ c.node_at-node.ensures (sym (said_external c.node_at-node.result refl c.class_of.ensures c.eq.ensures) ∙ c.if-eq.true) _ c.replacement.ensures _ c.in-Some.is))

pub walk_below-returns-in_err-merged-clause-walks : goal.walk_below-returns-in_err-merged-clause-walks
walk_below-returns-in_err-merged-clause-walks t c =
    λ g path u q new.
    let same : c.from_residual.result ≡ c.open_node.result = search rules in
    rw same (replacement_stops q c.requires.p_in_bounds c.args.left _ c.node_at-node.ensures (sym (said_external c.node_at-node.result refl c.class_of.ensures c.eq.ensures) ∙ c.if-eq.true) _ c.replacement.ensures _ c.in-Some.is (c.open_node.ensures.walks g _ u q) (off_err _ _ c.in_err-merged.was))

pub walk_below-offset_bounds-self-q : goal.walk_below-offset_bounds-self-q
walk_below-offset_bounds-self-q t c =
    let q = c.requires.inside.stands in
    let z = replacement_low q c.requires.p_in_bounds c.args.left _ c.node_at-node.ensures (sym (said_external c.node_at-node.result refl c.class_of.ensures c.eq.ensures) ∙ c.if-eq.true) _ c.replacement.ensures _ c.in-Some.is in
    omega (arith, z, q.charted.mapped.few)

pub walk_below-bounds-self-q : goal.walk_below-bounds-self-q
walk_below-bounds-self-q t c =
    let a = c.requires.inside in
    let z = replacement_low a.stands c.requires.p_in_bounds c.args.left _ c.node_at-node.ensures (sym (said_external c.node_at-node.result refl c.class_of.ensures c.eq.ensures) ∙ c.if-eq.true) _ c.replacement.ensures _ c.in-Some.is in
    let l = replacement_long a.stands c.requires.p_in_bounds c.args.left _ c.node_at-node.ensures (sym (said_external c.node_at-node.result refl c.class_of.ensures c.eq.ensures) ∙ c.if-eq.true) _ c.replacement.ensures _ c.in-Some.is (c.open_node.ensures.walks a.graph _ a.state a.stands) _ c.in_ok-merged.was in
    omega (arith, z, l)

pub walk_below-bounds-self-p : goal.walk_below-bounds-self-p
walk_below-bounds-self-p t c =
    let a = c.requires.inside in
    let l = replacement_long a.stands c.requires.p_in_bounds c.args.left _ c.node_at-node.ensures (sym (said_external c.node_at-node.result refl c.class_of.ensures c.eq.ensures) ∙ c.if-eq.true) _ c.replacement.ensures _ c.in-Some.is (c.open_node.ensures.walks a.graph _ a.state a.stands) _ c.in_ok-merged.was in
    omega (arith, c.requires.p_in_bounds, l)

pub walk_below-returns-then-eq-clause-walks : goal.walk_below-returns-then-eq-clause-walks
walk_below-returns-then-eq-clause-walks t c =
    λ g path u q new.
    replacement_ends q c.requires.p_in_bounds c.args.left _ c.node_at-node.ensures (sym (said_external c.node_at-node.result refl c.class_of.ensures c.eq.ensures) ∙ c.if-eq.true) _ c.replacement.ensures _ c.in-Some.is (c.open_node.ensures.walks g _ u q) _ c.in_ok-merged.was

pub walk_below-loop-i-init : goal.walk_below-loop-i-init
walk_below-loop-i-init t c = taking_start _ _ _ _ _

pub walk_below-open_node-requires-in-loop-i : goal.walk_below-open_node-requires-in-loop-i
walk_below-open_node-requires-in-loop-i t c =
    let a = c.requires.inside in
    let k = c.loop-i.invariant in
    let v = k.gone a.graph a.path a.state a.stands in
    (omega (arith), (record { graph = a.graph; path = _; state = v.state; stands = stands_kept k.kept v.stands }, rw k.kept.bases (child_low c.requires.p_in_bounds _ c.node_at-node.ensures (sym (said_external c.node_at-node.result refl c.class_of.ensures c.eq.ensures) ∙ c.if-eq.false) a.stands v c.loop-i-test.true _ refl)))

pub walk_below-returns-in_err-merged-2-clause-kept : goal.walk_below-returns-in_err-merged-2-clause-kept
walk_below-returns-in_err-merged-2-clause-kept t c = kept_again c.loop-i.invariant.kept c.open_node-in-loop-i.ensures.kept

pub walk_below-returns-in_err-merged-2-clause-walks : goal.walk_below-returns-in_err-merged-2-clause-walks
walk_below-returns-in_err-merged-2-clause-walks t c =
    λ g path u q new.
    let k = c.loop-i.invariant in
    let v = k.gone g path u q in
    let same : c.from_residual-in_err-merged-2.result ≡ c.open_node-in-loop-i.result = search rules in
    rw same (child_stops c.requires.p_in_bounds _ c.node_at-node.ensures (sym (said_external c.node_at-node.result refl c.class_of.ensures c.eq.ensures) ∙ c.if-eq.false) q v c.loop-i-test.true _ refl (walks_kept k.kept (c.open_node-in-loop-i.ensures.walks g _ v.state (stands_kept k.kept v.stands))) (off_err _ _ c.in_err-merged-2.was))

pub walk_below-loop-i-preserved : goal.walk_below-loop-i-preserved
walk_below-loop-i-preserved t c =
    let k = c.loop-i.invariant in
    record {
      kept = kept_again k.kept c.open_node-in-loop-i.ensures.kept;
      within = let z = c.loop-i-test.true in omega arith;
      gone = λ g path u q.
          let v = k.gone g path u q in
          child_taken c.requires.p_in_bounds _ c.node_at-node.ensures (sym (said_external c.node_at-node.result refl c.class_of.ensures c.eq.ensures) ∙ c.if-eq.false) q v c.loop-i-test.true _ refl (walks_kept k.kept (c.open_node-in-loop-i.ensures.walks g _ v.state (stands_kept k.kept v.stands))) _ c.in_ok-merged-2.was;
    }

pub walk_below-push-requires-2 : goal.walk_below-push-requires-2
walk_below-push-requires-2 t c =
    let a = c.requires.inside in
    let k = c.loop-i.invariant in
    record { graph = a.graph; path = a.path; state = _; pushing = pushing_kept k.kept (kids_pushing c.requires.p_in_bounds _ c.node_at-node.ensures (sym (said_external c.node_at-node.result refl c.class_of.ensures c.eq.ensures) ∙ c.if-eq.false) a.stands (k.gone a.graph a.path a.state a.stands) c.loop-i-test.false a.new) }

pub walk_below-returns-clause-kept : goal.walk_below-returns-clause-kept
walk_below-returns-clause-kept t c = kept_again c.loop-i.invariant.kept c.push-2.ensures.kept

pub walk_below-returns-clause-walks : goal.walk_below-returns-clause-walks
walk_below-returns-clause-walks t c =
    λ g path u q new.
    let k = c.loop-i.invariant in
    let v = k.gone g path u q in
    let (e, h) = c.push-2.ensures.came g path v.state (pushing_kept k.kept (kids_pushing c.requires.p_in_bounds _ c.node_at-node.ensures (sym (said_external c.node_at-node.result refl c.class_of.ensures c.eq.ensures) ∙ c.if-eq.false) q v c.loop-i-test.false new)) in
    kids_finish c.requires.p_in_bounds _ c.node_at-node.ensures (sym (said_external c.node_at-node.result refl c.class_of.ensures c.eq.ensures) ∙ c.if-eq.false) q v c.loop-i-test.false _ (e, holds_kept k.kept h)
