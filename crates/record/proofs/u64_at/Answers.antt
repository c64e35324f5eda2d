use Prim.Native.Nat.{◌+◌}
use native.Mathlib.Omega.{arith}
use Rattle.record.proofs.Numbers.{number_four, number_none}
use Rattle.record.proofs.u64_at.Goals as goal

pub returns : goal.returns
returns c =
    let a = c.args in
    omega (
      arith,
      number_four a.s.now a.at 4 (omega arith),
      number_four a.s.now a.at 0 (omega arith),
      number_none a.s.now (a.at + 4),
    )
