use native.Mathlib.Omega.{arith}
use Rattle.ready.proofs.Edits.{remove_here, remove_above, remove_asks}
use Rattle.ready.proofs.+remove.Goals as goal

pub returns-then-n-rest : goal.returns-then-n-rest
returns-then-n-rest t c = remove_here c.requires.i_lt_n c.requires.tree c.if-n-rest.true

pub remove-requires : goal.remove-requires
remove-requires t c =
    let a = remove_asks c.requires.i_lt_n c.requires.tree c.if-n-rest.false in
    (omega (arith, a.0), a.1)

pub returns : goal.returns
returns t c = remove_above c.requires.i_lt_n c.requires.tree c.if-n-rest.false c.remove.auto.rows c.remove.ensures
