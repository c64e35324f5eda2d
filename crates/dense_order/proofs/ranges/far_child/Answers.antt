use Rattle.std.specs.Prelude.{Some, None}
use mathlib.Core.Path.{◌≡◌, sym, ◌∙◌}
use borrow.Author.Rules.{rules}
use Rattle.dense_order.proofs.ChildRange.{near_start, near_found, near_step, near_end}
use Rattle.dense_order.proofs.ranges.far_child.Goals as goal

pub loop-i-init : goal.loop-i-init
loop-i-init c = near_start c.args.nodes.now

pub returns-in-Some : goal.returns-in-Some
returns-in-Some c =
    let l = c.loop-i in
    let k = c.last_from in
    let child = c.in-Some.child in
    let e : k.result ≡ Some child = search rules in
    near_found c.args.nodes.now l.i l.invariant c.loop-i-test.true _ c.node_at-node.ensures child (sym k.ensures ∙ e)

pub loop-i-preserved : goal.loop-i-preserved
loop-i-preserved c =
    let l = c.loop-i in
    let k = c.last_from in
    let e : k.result ≡ None = search rules in
    near_step c.args.nodes.now l.i l.invariant c.loop-i-test.true _ c.node_at-node.ensures (sym k.ensures ∙ e)

pub returns : goal.returns
returns c = near_end c.args.nodes.now c.loop-i.i c.loop-i.invariant c.loop-i-test.false
