use Rattle.std.specs.Prelude.{Some, None}
use mathlib.Core.Path.{◌≡◌, sym, ◌∙◌}
use borrow.Author.Rules.{rules}
use Rattle.dense_order.proofs.Refusals.{record_bad, found_refused}
use Rattle.dense_order.proofs.bad_first.Goals as goal

pub returns-in-Some : goal.returns-in-Some
returns-in-Some c =
    let f = c.first_bad in
    let lowest = c.in-Some.lowest in
    let e : f.result ≡ Some lowest = search rules in
    record_bad c.args.nodes.now lowest _ (sym f.ensures ∙ e)

pub returns : goal.returns
returns c =
    let a = c.args in
    let f = c.first_bad in
    let e : f.result ≡ None = search rules in
    found_refused a.nodes.now a.reply (sym f.ensures ∙ e)
