-- From what a check answers back to the option that it stands for.
-- Assumes nothing.
use mathlib.Core.Path.{◌≡◌, refl}
use Rattle.std.specs.Prelude.{Option, Some, None, Ok, Err}
use Rattle.record.proofs.Basics.{clash}
use Rattle.forest.specs.declared.Reply.{Reply}
use Rattle.dense_order.specs.Found.{check_of}

pub refused_some : (o : Option Reply) (r : Reply) → check_of o ≡ Err r → o ≡ Some r
unfolding check_of
refused_some None r e = absurd (clash (cc))
refused_some (Some q) r e = cc

pub passed_none : (o : Option Reply) → check_of o ≡ Ok tt → o ≡ None
unfolding check_of
passed_none None e = refl
passed_none (Some q) e = absurd (clash (cc))
