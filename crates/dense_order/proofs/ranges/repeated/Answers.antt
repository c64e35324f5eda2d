use mathlib.Core.Path.{sym, ◌∙◌}
use native.Mathlib.Omega.{arith}
use Rattle.dense_order.proofs.Repeats.{unlike_start, first_numbered, second_numbered, unlike_found, unlike_step, unlike_end}
use Rattle.dense_order.proofs.ranges.repeated.Goals as goal

pub loop-pair-init : goal.loop-pair-init
loop-pair-init c =
    let w = c.windows-pair-items.ensures in
    let e = c.into_iter-pair-iterator.ensures.into_iter_gives in
    (rw e w.size, rw (e, w.rest) (unlike_start _ c.args.work.now c.args.count c.requires.listed))

pub digest_at-digest-requires : goal.digest_at-digest-requires
digest_at-digest-requires c =
    let l = c.loop-pair.invariant in
    let n = c.in-Some.ensures.steps in
    omega (arith, first_numbered l.1 l.0 n.1.0 n.1.1)

pub has_digest-requires : goal.has_digest-requires
has_digest-requires c =
    let l = c.loop-pair.invariant in
    let n = c.in-Some.ensures.steps in
    second_numbered l.1 l.0 n.1.0 n.1.1

pub returns-then-has_digest : goal.returns-then-has_digest
returns-then-has_digest c =
    let l = c.loop-pair.invariant in
    let n = c.in-Some.ensures.steps in
    unlike_found l.1 l.0 n.1.0 n.1.1 _ c.digest_at-digest.ensures (sym c.has_digest.ensures ∙ c.if-has_digest.true)

pub loop-pair-preserved : goal.loop-pair-preserved
loop-pair-preserved c =
    let l = c.loop-pair.invariant in
    let n = c.in-Some.ensures.steps in
    (n.0 ∙ l.0, rw n.1.2 (unlike_step l.1 l.0 n.1.0 n.1.1 _ c.digest_at-digest.ensures (sym c.has_digest.ensures ∙ c.if-has_digest.false)))

pub returns : goal.returns
returns c =
    let l = c.loop-pair.invariant in
    let n = c.in-None.ensures.steps in
    unlike_end l.1 (rw l.0 at n.1.0)
