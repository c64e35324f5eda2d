use Rattle.std.proofs.Common.{rules, tests, ◌≡◌, not, ltb, ◌∙◌}
use Rattle.std.specs.List.{position}
use Rattle.std.proofs.lemmas.Iterator.{YieldsList-from_slice}
use Rattle.std.proofs.lemmas.Iterator.Search.{position_from_yields_List}
use Rattle.dense_order.proofs.Lowest.{position_lowest, lowest_map}
use Rattle.dense_order.proofs.ranges.far_root.Goals as goal

pub returns : goal.returns
returns c =
    let e : c.position.result ≡ position (λ x. not (ltb x c.args.n)) c.args.roots.now = position_from_yields_List (λ x. not (ltb x c.args.n)) _ _ c.position.result c.position.ensures.ran (YieldsList-from_slice c.args.roots.now cc) (λ x b q k. search (rules, tests)) in
    e ∙ position_lowest _ _ ∙ lowest_map not (λ x. ltb x c.args.n) c.args.roots.now
