use mathlib.Core.Path.{◌∙◌}
use native.Mathlib.Omega.{arith}
use Rattle.record.proofs.Puts.{copied}
use Rattle.record.proofs.U64Word.put.Goals as goal

pub returns : goal.returns
returns c = copied 8 _ c.args.self c.args.s.now _ c.args.at (omega arith) (c.copy_from_slice.ensures.after ∙ c.to_le_bytes.ensures) c.requires
