use mathlib.Core.Path.{refl, ◌∙◌}
use native.Mathlib.Omega.{arith}
use Rattle.room.proofs.Writes.{putting_start, front_step, front_end}
use Rattle.merger.proofs.Writing.{front_over}
use Rattle.merger.proofs.deliver.write_roots.Goals as goal

pub loop-i-init : goal.loop-i-init
loop-i-init c = putting_start refl (omega (arith, c.requires))

pub loop-i-preserved : goal.loop-i-preserved
loop-i-preserved c = front_step c.loop-i.invariant _ (omega arith) refl

pub returns : goal.returns
returns c = front_end c.loop-i.invariant (omega arith) ∙ front_over _ _
