use Prim.Native.Nat.{◌<◌}
use mathlib.Core.Path.{◌≡◌, ◌∙◌, sym}
use lib.ListN.{length}
use native.Mathlib.Omega.{arith}
use borrow.Author.Rules.{rules}
use Rattle.dense_order.proofs.Releasing.{releasing_start, releasing_step, releasing_none, releasing_full, found_below, found_ready, lowest_found}
use Rattle.dense_order.proofs.order.release.Goals as goal

pub loop-filled-init : goal.loop-filled-init
loop-filled-init c = releasing_start c.requires.order_long c.requires.begun

pub lowest-requires-clause-tree : goal.lowest-requires-clause-tree
lowest-requires-clause-tree c = let k = c.loop-filled.invariant.standing.stands.counts in rw k.long k.tree

pub returns-in_default : goal.returns-in_default
returns-in_default c =
    let l = c.loop-filled.invariant in
    releasing_none l (lowest_found l (sym c.lowest.ensures ∙ (search rules)))

pub append-requires : goal.append-requires
append-requires c =
    let l = c.loop-filled.invariant in
    let k = c.loop-filled-test.true in
    let h : c.loop-filled.filled < length c.loop-filled.order = omega (arith, l.long, c.requires.order_long) in
    let e = lowest_found l (sym c.lowest.ensures ∙ (search rules)) in
    record { standing = l.standing; order_long = l.long; p_lt_n = (rw l.long (found_below l e), h); p_value = found_ready l e }

pub loop-filled-preserved : goal.loop-filled-preserved
loop-filled-preserved c =
    let l = c.loop-filled.invariant in
    releasing_step l (lowest_found l (sym c.lowest.ensures ∙ (search rules))) c.append.auto.order (let z = l.long in let y = c.requires.order_long in let k = c.loop-filled-test.true in omega arith) c.append.ensures

pub returns : goal.returns
returns c =
    let l = c.loop-filled.invariant in
    let z : c.loop-filled.filled ≡ length c.loop-filled.order = (let e = l.standing.upto in let a = l.standing.some in let x = l.long in let y = c.requires.order_long in let k = c.loop-filled-test.false in omega arith) in
    rw z at (releasing_full l (let y = c.requires.order_long in let k = c.loop-filled-test.false in omega arith))
