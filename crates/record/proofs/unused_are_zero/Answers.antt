use mathlib.Core.Path.{◌≡◌, sym, ◌∙◌}
use native.Mathlib.Omega.{arith}
use borrow.Author.Rules.{rules}
use lib.ListN.{length}
use Rattle.record.specs.Node.{fields}
use Rattle.record.proofs.Rules.{looked_on, looked_end}
use Rattle.record.proofs.unused_are_zero.Goals as goal

pub loop-i-preserved : goal.loop-i-preserved
loop-i-preserved c =
    let a = c.args in
    let l = c.loop-i in
    l.invariant ∙ looked_on a.kids a.count l.i l.zero (omega arith)

pub returns : goal.returns
returns c =
    let a = c.args in
    let l = c.loop-i in
    let n : length a.kids ≡ fields = search rules in
    sym (l.invariant ∙ looked_end a.kids a.count l.i l.zero (omega arith))
