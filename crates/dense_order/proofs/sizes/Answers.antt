use borrow.Author.Tests.{lt-ltb, le-ltb, eq-eqb, ne_eqb}
use Rattle.forest.specs.Lent.{when, first}
use Rattle.dense_order.specs.Found.{check_of}
use Rattle.dense_order.specs.Steps.{size_checks}
use Rattle.dense_order.proofs.sizes.Goals as goal

pub returns-then-n-roots : goal.returns-then-n-roots
unfolding size_checks check_of first when
returns-then-n-roots c = rw c.if-n-roots.true

pub returns-then-nodes-ne0 : goal.returns-then-nodes-ne0
unfolding size_checks check_of first when
returns-then-nodes-ne0 c = rw (c.if-n-roots.false, ne_eqb _ _ c.if-nodes-ne0.true)

pub returns-then-records-nodes : goal.returns-then-records-nodes
unfolding size_checks check_of first when
returns-then-records-nodes c = rw (c.if-n-roots.false, eq-eqb _ _ c.if-nodes-ne0.false, ne_eqb _ _ c.if-records-nodes.true)

pub returns-then-starts-roots : goal.returns-then-starts-roots
unfolding size_checks check_of first when
returns-then-starts-roots c = rw (c.if-n-roots.false, eq-eqb _ _ c.if-nodes-ne0.false, eq-eqb _ _ c.if-records-nodes.false, ne_eqb _ _ c.if-starts-roots.true)

pub returns-then-ids-n : goal.returns-then-ids-n
unfolding size_checks check_of first when
returns-then-ids-n c = rw (c.if-n-roots.false, eq-eqb _ _ c.if-nodes-ne0.false, eq-eqb _ _ c.if-records-nodes.false, eq-eqb _ _ c.if-starts-roots.false, ne_eqb _ _ c.if-ids-n.true)

pub returns-then-work-n : goal.returns-then-work-n
unfolding size_checks check_of first when
returns-then-work-n c = rw (c.if-n-roots.false, eq-eqb _ _ c.if-nodes-ne0.false, eq-eqb _ _ c.if-records-nodes.false, eq-eqb _ _ c.if-starts-roots.false, eq-eqb _ _ c.if-ids-n.false, lt-ltb _ _ c.if-work-n.true)

pub returns : goal.returns
unfolding size_checks check_of first when
returns c = rw (c.if-n-roots.false, eq-eqb _ _ c.if-nodes-ne0.false, eq-eqb _ _ c.if-records-nodes.false, eq-eqb _ _ c.if-starts-roots.false, eq-eqb _ _ c.if-ids-n.false, le-ltb _ _ c.if-work-n.false)
