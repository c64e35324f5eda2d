use mathlib.Core.Path.{◌∙◌, sym}
use Rattle.record.proofs.Orders.{compared_cmp}
use Rattle.record.proofs.compare.Goals as goal

pub returns : goal.returns
returns c = c.cmp.ensures ∙ sym (compared_cmp c.args.a c.args.b)
