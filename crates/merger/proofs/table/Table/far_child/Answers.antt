use Rattle.std.specs.Prelude.{Some, None}
use mathlib.Core.Path.{◌≡◌, sym, ◌∙◌}
use Rattle.merger.proofs.Cursors.{node_start, node_next}
use Rattle.merger.proofs.ChildRanges.{near_start, near_found, near_step, near_end}
use borrow.Author.Rules.{rules}
use native.Mathlib.Omega.{arith}
use Rattle.merger.proofs.table.Table.far_child.Goals as goal

pub loop-p-init : goal.loop-p-init
loop-p-init c =
    let a = c.args in
    (search rules, rw c.start-at.ensures (node_start a.self.now), near_start a.self.now a.nodes.now)

pub at_node-at-requires : goal.at_node-at-requires
at_node-at-requires c =
    let l = c.loop-p in
    record { to_node = l.invariant.1; p_bound = omega (arith, c.requires.nodes_len, l.invariant.0) }

pub overflow_sub-at : goal.overflow_sub-at
overflow_sub-at c = let a = c.at_node-at.ensures in omega (arith, a.high, a.toward.low)

pub returns-in-Some : goal.returns-in-Some
returns-in-Some c =
    let l = c.loop-p in
    let k = c.last_from in
    let child = c.in-Some.child in
    let e : k.result ≡ Some child = search rules in
    near_found c.args.self.now c.args.nodes.now c.requires.nodes_len l.p l.invariant.2 _ c.at_node-at.ensures (omega (arith, l.invariant.0)) _ c.node_at-node.ensures child (sym k.ensures ∙ e)

pub loop-p-preserved : goal.loop-p-preserved
loop-p-preserved c =
    let l = c.loop-p in
    let k = c.last_from in
    let a = c.at_node-at.ensures in
    let e : k.result ≡ None = search rules in
    (l.invariant.0, node_next c.args.self.now _ l.p a, near_step c.args.self.now c.args.nodes.now c.requires.nodes_len l.p l.invariant.2 _ a (omega (arith, l.invariant.0)) _ c.node_at-node.ensures (sym k.ensures ∙ e))

pub returns : goal.returns
returns c =
    let l = c.loop-p in
    near_end c.args.self.now c.args.nodes.now c.requires.nodes_len l.p l.invariant.2 (omega (arith, l.invariant.0))
