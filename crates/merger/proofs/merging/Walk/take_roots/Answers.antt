use Rattle.merger.proofs.Going.{off_err}
use Rattle.merger.proofs.Holding.{stands_kept}
use Rattle.merger.proofs.Rooting.{rooting_start, root_low, root_stops, rooting_step, rooting_ends}
use mathlib.Core.List.{[]}
use mathlib.Core.Path.{◌≡◌, refl}
use native.Mathlib.Omega.{arith}
use borrow.Author.Rules.{rules}
use Rattle.merger.proofs.merging.Walk.take_roots.Goals as goal

pub loop-k-init : goal.loop-k-init
loop-k-init c = rooting_start _ _ c.start-at.ensures c.requires

pub overflow_add-at : goal.overflow_add-at
overflow_add-at c = let z = root_low c.requires c.loop-k.invariant (omega arith) c.at_root-at.ensures _ refl in omega (arith, z, c.requires.charted.mapped.few)

pub open_node-requires-clause-p_in_bounds : goal.open_node-requires-clause-p_in_bounds
open_node-requires-clause-p_in_bounds c = rw c.loop-k.invariant.kept.bases (root_low c.requires c.loop-k.invariant (omega arith) c.at_root-at.ensures _ refl)

pub returns-in_err-merged-clause-walks : goal.returns-in_err-merged-clause-walks
returns-in_err-merged-clause-walks c =
    λ g q.
    let k = c.loop-k.invariant in
    let v = k.gone g q in
    let same : c.from_residual.result ≡ c.open_node.result = search rules in
    rw same (root_stops c.requires k (omega arith) c.at_root-at.ensures _ refl c.open_node.ensures.kept q (c.open_node.ensures.walks g [] v.state (stands_kept k.kept v.stands)) (off_err _ _ c.in_err-merged.was))

pub loop-k-preserved : goal.loop-k-preserved
loop-k-preserved c =
    let k = c.loop-k.invariant in
    rooting_step c.requires k (omega arith) c.at_root-at.ensures _ refl c.open_node.ensures.kept _ c.in_ok-merged.was (λ g q. let v = k.gone g q in c.open_node.ensures.walks g [] v.state (stands_kept k.kept v.stands))

pub returns-clause-walks : goal.returns-clause-walks
returns-clause-walks c = λ g q. rooting_ends c.requires c.loop-k.invariant c.loop-k-test.false q
