use Rattle.merger.proofs.Holders.{said_external, listed_on, listed_all}
use Rattle.sorting.proofs.Keeping.{keeping_start, numbers_past}
use Rattle.record.specs.Node.{node_at}
use mathlib.Core.Bool.{not}
use mathlib.Core.Path.{sym, ◌∙◌, ap}
use native.Mathlib.Omega.{arith}
use Rattle.merger.proofs.multi_forest_node_iterator.list_holders.Goals as goal

pub loop-p-init : goal.loop-p-init
loop-p-init c = keeping_start _ _ _ _

pub loop-p-preserved-then-eq : goal.loop-p-preserved-then-eq
loop-p-preserved-then-eq c = numbers_past c.loop-p.invariant c.loop-p-test.true (ap not (sym (said_external (node_at c.args.nodes.now c.loop-p.p) c.kind_at.ensures c.class_of.ensures c.eq.ensures) ∙ c.if-eq.true))

pub loop-p-preserved : goal.loop-p-preserved
loop-p-preserved c = listed_on c.loop-p.invariant c.loop-p-test.true (omega arith) (ap not (sym (said_external (node_at c.args.nodes.now c.loop-p.p) c.kind_at.ensures c.class_of.ensures c.eq.ensures) ∙ c.if-eq.false))

pub returns : goal.returns
returns c = listed_all c.requires c.loop-p.invariant c.loop-p-test.false
