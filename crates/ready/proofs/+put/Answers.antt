use native.Mathlib.Omega.{arith}
use Rattle.ready.proofs.Edits.{put_here, put_above, put_asks}
use Rattle.ready.proofs.+put.Goals as goal

pub returns-then-n-old : goal.returns-then-n-old
returns-then-n-old t c = put_here c.requires.i_lt_n c.requires.tree c.if-n-old.true

pub put-requires : goal.put-requires
put-requires t c =
    let a = put_asks c.requires.i_lt_n c.requires.tree c.if-n-old.false in
    (omega (arith, a.0), a.1)

pub returns : goal.returns
returns t c = put_above c.requires.i_lt_n c.requires.tree c.if-n-old.false c.put.auto.rows c.put.ensures
