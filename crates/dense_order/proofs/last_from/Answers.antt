use mathlib.Core.Path.{◌≡◌}
use Prim.Native.Nat.{◌-◌}
use native.Mathlib.Omega.{arith}
use borrow.Author.Rules.{rules}
use lib.ListN.{length}
use Rattle.record.specs.Node.{fields}
use Rattle.dense_order.proofs.Last.{among_start, among_found, among_step, among_end}
use Rattle.dense_order.proofs.last_from.Goals as goal

pub loop-i-init : goal.loop-i-init
loop-i-init c =
    let k : length c.args.n.kids ≡ fields = search rules in
    among_start c.args.n _ fields (omega arith)

pub returns-then-i-n : goal.returns-then-i-n
returns-then-i-n c =
    let k : length c.args.n.kids ≡ fields = search rules in
    let i = c.loop-i.i in
    among_found c.args.n _ i (i - 1) c.loop-i.invariant (omega arith) (omega arith) c.if-i-n.true

pub loop-i-preserved : goal.loop-i-preserved
loop-i-preserved c =
    let k : length c.args.n.kids ≡ fields = search rules in
    let i = c.loop-i.i in
    among_step c.args.n _ i (i - 1) c.loop-i.invariant (omega arith) (omega arith) c.if-i-n.false

pub returns : goal.returns
returns c = among_end c.args.n _ c.loop-i.i c.loop-i.invariant c.loop-i-test.false
