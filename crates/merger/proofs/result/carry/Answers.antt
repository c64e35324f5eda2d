use Rattle.merger.proofs.Moving.{moved_low, moved_high, moving}
use Rattle.merger.proofs.result.carry.Goals as goal

pub loop-state-preserved-then-state-lt2 : goal.loop-state-preserved-then-state-lt2
loop-state-preserved-then-state-lt2 c = moving _ c.loop-state.invariant c.loop-state-test.true (moved_low _ _ c.if-state-lt2.true)

pub loop-state-preserved : goal.loop-state-preserved
loop-state-preserved c = moving _ c.loop-state.invariant c.loop-state-test.true (moved_high _ _ c.if-state-lt2.false)
