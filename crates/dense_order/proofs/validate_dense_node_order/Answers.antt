use Rattle.std.specs.Prelude.{Err}
use mathlib.Core.Path.{◌≡◌, sym, ◌∙◌}
use borrow.Author.Rules.{rules}
use Rattle.dense_order.proofs.Faults.{ordered_start, next_refused, next_ordered, all_ordered}
use Rattle.dense_order.proofs.validate_dense_node_order.Goals as goal

pub loop-i-init : goal.loop-i-init
loop-i-init c = ordered_start c.args.nodes.now

pub returns-in_err-fault : goal.returns-in_err-fault
returns-in_err-fault c =
    let l = c.loop-i in
    let e : c.from_residual.result ≡ Err c.in_err-fault.field-0.0 = search rules in
    e ∙ next_refused c.args.nodes.now l.i l.invariant c.loop-i-test.true _ (sym c.fault.ensures ∙ c.in_err-fault.was)

pub loop-i-preserved : goal.loop-i-preserved
loop-i-preserved c =
    let l = c.loop-i in
    next_ordered c.args.nodes.now l.i l.invariant c.loop-i-test.true (sym c.fault.ensures ∙ c.in_ok-fault.was)

pub returns : goal.returns
returns c = let l = c.loop-i in all_ordered c.args.nodes.now l.i l.invariant c.loop-i-test.false
