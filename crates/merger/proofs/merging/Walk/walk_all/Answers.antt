use Rattle.merger.proofs.Rooting.{says_going, stops_within, says_cycle, says_deep}
use native.Mathlib.Omega.{arith}
use Rattle.merger.proofs.merging.Walk.walk_all.Goals as goal

pub offset_bounds-self-p : goal.offset_bounds-self-p
offset_bounds-self-p c =
    let a = c.requires in
    let z = stops_within _ _ _ (c.take_roots.ensures.walks a.graph a.charted) c.in-Err.is in
    omega (arith, z.0, a.charted.mapped.few)

pub bounds-self-p : goal.bounds-self-p
bounds-self-p c = let a = c.requires in (stops_within _ _ _ (c.take_roots.ensures.walks a.graph a.charted) c.in-Err.is).1

pub returns-in-Ok-clause-walks : goal.returns-in-Ok-clause-walks
returns-in-Ok-clause-walks c = λ g q. says_going _ _ _ (c.take_roots.ensures.walks g q) c.in-Ok.is

pub returns-in-Err-clause-walks : goal.returns-in-Err-clause-walks
returns-in-Err-clause-walks c = λ g q. says_cycle _ _ _ (c.take_roots.ensures.walks g q) c.in-Err.is c.if-self-p-eq1.true

pub returns-in-Err-2-clause-walks : goal.returns-in-Err-2-clause-walks
returns-in-Err-2-clause-walks c = λ g q. says_deep _ _ _ (c.take_roots.ensures.walks g q) c.in-Err.is c.if-self-p-eq1.false
