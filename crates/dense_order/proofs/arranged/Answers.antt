use Rattle.std.specs.Prelude.{Ok}
use mathlib.Core.Path.{◌≡◌, sym, ◌∙◌}
use native.Mathlib.Omega.{arith}
use borrow.Author.Rules.{rules}
use Rattle.dense_order.proofs.Keeping.{kept_answers}
use Rattle.dense_order.proofs.Options.{passed_none}
use Rattle.dense_order.proofs.arranged.Goals as goal

pub returns : goal.returns
returns c =
    let b = c.requires.blank in
    let v = c.validate_dense_node_order in
    let e : v.result ≡ Ok tt = search rules in
    let k = c.keep_order in
    kept_answers (passed_none _ (sym v.ensures ∙ e)) b.counted (let l = k.auto.work in let r = b.room in omega arith) k.ensures
