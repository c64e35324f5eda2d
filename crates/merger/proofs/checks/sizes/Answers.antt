use mathlib.Core.Path.{◌∙◌}
use native.Mathlib.Omega.{arith}
use borrow.Author.Tests.{lt-ltb, le-ltb, eq-eqb, ne_eqb}
use Rattle.forest.specs.Lent.{when, first}
use Rattle.dense_order.specs.Found.{check_of}
use Rattle.merger.specs.Steps.{size_checks}
use Rattle.merger.proofs.Sizing.{rows_many, sums_decide, sum_few}
use Rattle.merger.proofs.checks.sizes.Goals as goal

pub returns-then-not-limit : goal.returns-then-not-limit
unfolding size_checks check_of first when
returns-then-not-limit c = rw c.if-not-limit.true

pub returns-then-table-gt-MOST_FORESTS : goal.returns-then-table-gt-MOST_FORESTS
unfolding size_checks check_of first when
returns-then-table-gt-MOST_FORESTS c = rw (c.if-not-limit.false, rows_many _ c.if-table-gt-MOST_FORESTS.true)

pub returns-then-sums : goal.returns-then-sums
unfolding size_checks check_of first when
returns-then-sums c = rw (c.if-not-limit.false, sums_decide _ c.if-table-gt-MOST_FORESTS.false _ _ c.last-sums.ensures ∙ c.if-sums.true)

pub returns-then-table-ne0 : goal.returns-then-table-ne0
unfolding size_checks check_of first when
returns-then-table-ne0 c = rw (c.if-not-limit.false, sums_decide _ c.if-table-gt-MOST_FORESTS.false _ _ c.last-sums.ensures ∙ c.if-sums.false, ne_eqb _ _ c.if-table-ne0.true)

pub overflow_mul-sums : goal.overflow_mul-sums
overflow_mul-sums c = let q = c.last-sums.result in let z = sum_few q.nodes q.roots c.if-sums.false in omega arith

pub returns-then-nodes-sums : goal.returns-then-nodes-sums
unfolding size_checks check_of first when
returns-then-nodes-sums c = rw (c.if-not-limit.false, sums_decide _ c.if-table-gt-MOST_FORESTS.false _ _ c.last-sums.ensures ∙ c.if-sums.false, eq-eqb _ _ c.if-table-ne0.false, ← c.last-sums.ensures.0, ne_eqb _ _ c.if-nodes-sums.true)

pub returns-then-roots-sums : goal.returns-then-roots-sums
unfolding size_checks check_of first when
returns-then-roots-sums c = rw (c.if-not-limit.false, sums_decide _ c.if-table-gt-MOST_FORESTS.false _ _ c.last-sums.ensures ∙ c.if-sums.false, eq-eqb _ _ c.if-table-ne0.false, ← c.last-sums.ensures.0, ← c.last-sums.ensures.1, eq-eqb _ _ c.if-nodes-sums.false, ne_eqb _ _ c.if-roots-sums.true)

pub returns-then-ids-sums : goal.returns-then-ids-sums
unfolding size_checks check_of first when
returns-then-ids-sums c = rw (c.if-not-limit.false, sums_decide _ c.if-table-gt-MOST_FORESTS.false _ _ c.last-sums.ensures ∙ c.if-sums.false, eq-eqb _ _ c.if-table-ne0.false, ← c.last-sums.ensures.0, ← c.last-sums.ensures.1, eq-eqb _ _ c.if-nodes-sums.false, eq-eqb _ _ c.if-roots-sums.false, ne_eqb _ _ c.if-ids-sums.true)

pub returns-then-work-sums : goal.returns-then-work-sums
unfolding size_checks check_of first when
returns-then-work-sums c = rw (c.if-not-limit.false, sums_decide _ c.if-table-gt-MOST_FORESTS.false _ _ c.last-sums.ensures ∙ c.if-sums.false, eq-eqb _ _ c.if-table-ne0.false, ← c.last-sums.ensures.0, ← c.last-sums.ensures.1, eq-eqb _ _ c.if-nodes-sums.false, eq-eqb _ _ c.if-roots-sums.false, eq-eqb _ _ c.if-ids-sums.false, lt-ltb _ _ c.if-work-sums.true)

pub returns : goal.returns
unfolding size_checks check_of first when
returns c = rw (c.if-not-limit.false, sums_decide _ c.if-table-gt-MOST_FORESTS.false _ _ c.last-sums.ensures ∙ c.if-sums.false, eq-eqb _ _ c.if-table-ne0.false, ← c.last-sums.ensures.0, ← c.last-sums.ensures.1, eq-eqb _ _ c.if-nodes-sums.false, eq-eqb _ _ c.if-roots-sums.false, eq-eqb _ _ c.if-ids-sums.false, le-ltb _ _ c.if-work-sums.false)
