use Rattle.merger.proofs.Writing.{shown_none, shown_id}
use Rattle.merger.proofs.deliver.shown.Goals as goal

pub returns-then-state-lt2 : goal.returns-then-state-lt2
returns-then-state-lt2 c = shown_none _ c.if-state-lt2.true

pub returns-else-state-lt2 : goal.returns-else-state-lt2
returns-else-state-lt2 c = shown_id _ c.if-state-lt2.false
