use Rattle.merger.proofs.Likes.{matching_start, matching_fails, matching_step, matching_ends, different_counts, alike_counts}
use Rattle.record.specs.Node.{fields}
use lib.ListN.{length}
use mathlib.Core.Path.{◌≡◌, ◌∙◌}
use native.Mathlib.Omega.{arith}
use borrow.Author.Rules.{rules}
use Rattle.merger.proofs.merging.same_children.Goals as goal

pub returns-then-a-b : goal.returns-then-a-b
returns-then-a-b c =
    let x : length c.args.a.kids ≡ fields = search rules in
    let y : length c.args.b.kids ≡ fields = search rules in
    different_counts c.args.a c.args.b x y c.requires.0 c.requires.1 c.if-a-b.true

pub loop-i-init : goal.loop-i-init
loop-i-init c = matching_start _ _ _

pub bounds-left-i : goal.bounds-left-i
bounds-left-i c = omega (arith, c.loop-i-test.true)

pub bounds-right-i : goal.bounds-right-i
bounds-right-i c = omega (arith, c.loop-i-test.true)

pub returns-then-i-count : goal.returns-then-i-count
returns-then-i-count c =
    let x : length c.args.a.kids ≡ fields = search rules in
    let y : length c.args.b.kids ≡ fields = search rules in
    matching_fails c.loop-i.invariant (omega (arith, c.requires.0, x)) (omega (arith, c.requires.0, y)) c.if-i-count.true ∙ alike_counts c.args.a c.args.b c.if-a-b.false

pub loop-i-smaller : goal.loop-i-smaller
loop-i-smaller c = omega (arith, c.loop-i-test.true)

pub loop-i-preserved : goal.loop-i-preserved
loop-i-preserved c =
    let x : length c.args.a.kids ≡ fields = search rules in
    let y : length c.args.b.kids ≡ fields = search rules in
    matching_step c.loop-i.invariant (omega (arith, c.requires.0, x)) (omega (arith, c.requires.0, y)) c.if-i-count.false

pub returns : goal.returns
returns c =
    let x : length c.args.a.kids ≡ fields = search rules in
    let y : length c.args.b.kids ≡ fields = search rules in
    matching_ends c.loop-i.invariant (omega (arith, c.requires.0, x)) (omega (arith, c.requires.0, y)) (omega (arith, c.requires.0, c.loop-i-test.false)) ∙ alike_counts c.args.a c.args.b c.if-a-b.false
