use Rattle.record.proofs.Rules.{bad_tests}
use Rattle.record.proofs.bad.Goals as goal

pub returns : goal.returns
returns c = bad_tests c.args.n _ c.unused_are_zero-unused.ensures
