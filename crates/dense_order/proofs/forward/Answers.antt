use Rattle.std.specs.Prelude.{Some, None}
use mathlib.Core.Path.{◌≡◌, sym, ◌∙◌}
use borrow.Author.Rules.{rules}
use Rattle.dense_order.proofs.Faults.{forward_child_lem, forward_none}
use Rattle.dense_order.proofs.forward.Goals as goal

pub returns-in-Some : goal.returns-in-Some
returns-in-Some c =
    let a = c.args in
    let k = c.last_from in
    let child = c.in-Some.child in
    let e : k.result ≡ Some child = search rules in
    forward_child_lem a.i c.node_at-node.ensures child (sym k.ensures ∙ e)

pub returns-in-None : goal.returns-in-None
returns-in-None c =
    let a = c.args in
    let k = c.last_from in
    let e : k.result ≡ None = search rules in
    forward_none a.i c.node_at-node.ensures (sym k.ensures ∙ e)
