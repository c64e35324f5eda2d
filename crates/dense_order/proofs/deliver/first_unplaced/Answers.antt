use Rattle.std.proofs.Common.{rules, tests, ◌≡◌, ◌*◌, ◌-◌, eqb, take, drop, ◌∙◌}
use Rattle.std.specs.List.{position}
use Rattle.std.proofs.lemmas.Iterator.{YieldsList-from_slice}
use Rattle.std.proofs.lemmas.Iterator.Search.{position_from_yields_List}
use Rattle.dense_order.proofs.Lowest.{position_lowest}
use Rattle.dense_order.proofs.Marking.{marks_lowest}
use Rattle.dense_order.proofs.deliver.first_unplaced.Goals as goal

pub returns : goal.returns
returns c =
    let marks = take (2 * c.args.n - c.args.n) (drop c.args.n c.args.work.now) in
    let e : c.position.result ≡ position (λ x. eqb x 0) marks = position_from_yields_List (λ x. eqb x 0) _ _ c.position.result c.position.ensures.ran (YieldsList-from_slice marks cc) (λ x b q k. search (rules, tests)) in
    e ∙ position_lowest _ _ ∙ marks_lowest (λ x. eqb x 0) c.args.work.now c.args.n c.requires
