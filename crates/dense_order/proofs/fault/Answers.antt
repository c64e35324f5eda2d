use Rattle.std.proofs.Common.{ap, sym, ◌∙◌}
use Rattle.record.proofs.Classes.{class_lt, class_read}
use Rattle.dense_order.specs.Found.{check_of}
use Rattle.dense_order.proofs.Faults.{fault_first, fault_next, fault_class, fault_digest, fault_forward}
use Rattle.dense_order.proofs.fault.Goals as goal

pub returns-then-i-eq0 : goal.returns-then-i-eq0
returns-then-i-eq0 c = c.forward.ensures ∙ ap check_of (fault_first c.args.nodes.now c.args.i c.if-i-eq0.true)

pub returns-then-lt : goal.returns-then-lt
returns-then-lt c =
    fault_class c.args.i _ _ _ _ (class_read _ c.kind_at-2.ensures c.class_of-class.ensures) (class_read _ c.kind_at.ensures c.class_of-previous.ensures) (sym (class_lt _ _) ∙ sym c.lt.ensures ∙ c.if-lt.true)
    ∙ ap check_of (fault_next c.args.nodes.now c.args.i c.if-i-eq0.false)

pub returns-then-not-digest_rises : goal.returns-then-not-digest_rises
returns-then-not-digest_rises c =
    fault_digest c.args.i _ _ _ _ (class_read _ c.kind_at-2.ensures c.class_of-class.ensures) (class_read _ c.kind_at.ensures c.class_of-previous.ensures) (sym (class_lt _ _) ∙ sym c.lt.ensures ∙ c.if-lt.false) _ c.digest_rises.ensures c.if-not-digest_rises.true
    ∙ ap check_of (fault_next c.args.nodes.now c.args.i c.if-i-eq0.false)

pub returns : goal.returns
returns c =
    fault_forward c.args.i _ _ _ _ (class_read _ c.kind_at-2.ensures c.class_of-class.ensures) (class_read _ c.kind_at.ensures c.class_of-previous.ensures) (sym (class_lt _ _) ∙ sym c.lt.ensures ∙ c.if-lt.false) _ c.digest_rises.ensures _ c.if-not-digest_rises.false c.forward-2.ensures
    ∙ ap check_of (fault_next c.args.nodes.now c.args.i c.if-i-eq0.false)
