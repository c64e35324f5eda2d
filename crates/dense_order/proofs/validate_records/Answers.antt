use Rattle.std.specs.Prelude.{Ok, Err}
use mathlib.Core.Path.{◌≡◌, ap, sym, ◌∙◌}
use mathlib.Core.Bool.{true, false}
use borrow.Author.Rules.{rules}
use Rattle.record.specs.Node.{node_at, bad}
use Rattle.dense_order.proofs.Faults.{ordered_start, next_refused, next_ordered, all_ordered}
use Rattle.dense_order.proofs.Lowest.{seeking_start, seeking_found, seeking_step, seeking_end}
use Rattle.dense_order.proofs.Refusals.{record_bad, order_refused, both_passed}
use Rattle.dense_order.proofs.validate_records.Goals as goal

pub loop-i-init : goal.loop-i-init
loop-i-init c = let s = c.args.nodes.now in (seeking_start s, ordered_start s)

pub returns-then-bad : goal.returns-then-bad
returns-then-bad c =
    let s = c.args.nodes.now in
    let l = c.loop-i in
    let e : bad (node_at s l.i) ≡ true = sym (ap bad c.node_at.ensures) ∙ sym c.bad.ensures ∙ c.if-bad.true in
    record_bad s l.i _ (sym (seeking_found s l.i l.invariant.0 c.loop-i-test.true e))

pub returns-in-Err : goal.returns-in-Err
returns-in-Err c =
    let s = c.args.nodes.now in
    let l = c.loop-i in
    let f = c.fault in
    let reply = c.in-Err.reply in
    let e : f.result ≡ Err reply = search rules in
    order_refused s reply _ (next_refused s l.i l.invariant.1 c.loop-i-test.true reply (sym f.ensures ∙ e)) c.bad_first.ensures

pub loop-i-preserved : goal.loop-i-preserved
loop-i-preserved c =
    let s = c.args.nodes.now in
    let l = c.loop-i in
    let e : bad (node_at s l.i) ≡ false = sym (ap bad c.node_at.ensures) ∙ sym c.bad.ensures ∙ c.if-bad.false in
    let f = c.fault in
    let g : f.result ≡ (Ok tt) = search rules in
    let h = c.loop-i-test.true in
    (seeking_step s l.i l.invariant.0 h e, next_ordered s l.i l.invariant.1 h (sym f.ensures ∙ g))

pub returns : goal.returns
returns c =
    let s = c.args.nodes.now in
    let l = c.loop-i in
    both_passed s (sym (seeking_end s l.i l.invariant.0 c.loop-i-test.false)) (all_ordered s l.i l.invariant.1 c.loop-i-test.false)
