use Rattle.merger.proofs.Cursors.{node_start, node_next}
use Rattle.merger.proofs.BaseWrites.{based_start, based_step, based_end}
use Rattle.merger.proofs.table.Table.write_bases.Goals as goal

pub loop-p-init : goal.loop-p-init
loop-p-init c =
    let a = c.args in
    (rw c.start-at.ensures (node_start a.self.now), based_start a.self.now a.bases.now)

pub loop-p-preserved : goal.loop-p-preserved
loop-p-preserved c =
    let l = c.loop-p in
    let a = c.at_node-at.ensures in
    (node_next c.args.self.now _ l.p a, based_step l.invariant.1 _ a c.requires.0 c.loop-p-test.true)

pub returns : goal.returns
returns c = based_end c.loop-p.invariant.1 c.loop-p-test.false
