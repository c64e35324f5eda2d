use lib.ListN.{length}
use mathlib.Core.Path.{◌≡◌, refl}
use native.Mathlib.Omega.{arith}
use borrow.Author.Rules.{rules}
use Rattle.record.specs.Node.{fields, renumber}
use Rattle.record.proofs.Renumbers.{renumbering_start, kid_here, renumbering_end}
use Rattle.record.proofs.renumbered.Goals as goal

pub loop-i-init : goal.loop-i-init
loop-i-init g c = renumbering_start _ c.args.node

pub f-requires : goal.f-requires
f-requires g c = rw (kid_here c.loop-i.invariant) (c.requires.callable c.loop-i.i c.if-i-count.true)

pub returns : goal.returns
unfolding renumber
returns g c =
    λ h p.
    let k : length c.args.node.kids ≡ fields = search rules in
    rw (renumbering_end c.loop-i.invariant (omega arith) (omega (arith, c.requires.count_le_fields)) h p) refl
