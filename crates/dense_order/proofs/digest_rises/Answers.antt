use mathlib.Core.Path.{sym, ◌∙◌}
use Rattle.record.proofs.Classes.{class_other, class_same}
use Rattle.dense_order.proofs.Faults.{rises_other, rises_compared}
use Rattle.dense_order.proofs.digest_rises.Goals as goal

pub returns-then-ne : goal.returns-then-ne
returns-then-ne c = rises_other c.args.class _ (class_other _ _ (sym c.ne.ensures ∙ c.if-ne.true))

pub returns : goal.returns
returns c = rises_compared c.args.class (class_same _ _ (sym c.ne.ensures ∙ c.if-ne.false)) c.digest_at-previous_digest.ensures c.digest_at-digest.ensures _ _ c.compare.ensures c.is_lt.ensures
