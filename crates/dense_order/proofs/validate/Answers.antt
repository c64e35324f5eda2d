use Rattle.std.specs.Prelude.{Ok, Err}
use mathlib.Core.Path.{◌≡◌, sym, ◌∙◌}
use borrow.Author.Rules.{rules}
use Rattle.dense_order.proofs.Refusals.{too_many, part_record, records_refused, records_passed}
use Rattle.dense_order.proofs.validate.Goals as goal

pub returns-then-n-gt-MOST : goal.returns-then-n-gt-MOST
returns-then-n-gt-MOST c = too_many c.args.nodes.now c.if-n-gt-MOST.true

pub returns-then-nodes-ne0 : goal.returns-then-nodes-ne0
returns-then-nodes-ne0 c = part_record c.args.nodes.now c.if-n-gt-MOST.false c.if-nodes-ne0.true

pub returns-in-Err : goal.returns-in-Err
returns-in-Err c =
    let v = c.validate_records in
    let reply = c.in-Err.reply in
    let e : v.result ≡ Err reply = search rules in
    records_refused c.args.nodes.now c.if-n-gt-MOST.false c.if-nodes-ne0.false reply (sym v.ensures ∙ e)

pub returns : goal.returns
returns c =
    let v = c.validate_records in
    let e : v.result ≡ (Ok tt) = search rules in
    records_passed c.args.nodes.now c.if-n-gt-MOST.false c.if-nodes-ne0.false (sym v.ensures ∙ e)
