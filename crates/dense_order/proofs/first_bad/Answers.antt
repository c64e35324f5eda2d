use Rattle.std.proofs.Common.{rules, tests, ◌≡◌, ◌/◌, refl, ◌∙◌, sym, arith, length, option_map}
use Rattle.std.specs.List.{find, range_with_len}
use Rattle.std.proofs.lemmas.Iterator.{YieldsList-from_range}
use Rattle.std.proofs.lemmas.Iterator.Adapters.{option_map_id}
use Rattle.std.proofs.lemmas.Iterator.Search.{find_from_yields_List}
use Rattle.record.specs.Node.{size, node_at, bad}
use Rattle.dense_order.proofs.Lowest.{find_lowest}
use Rattle.dense_order.proofs.first_bad.Goals as goal

pub returns : goal.returns
returns c =
    let s = c.args.nodes.now in
    let e : option_map (λ x. x) c.find.result ≡ find (λ i. bad (node_at s i)) (range_with_len 0 (length s / size)) = find_from_yields_List (λ i. bad (node_at s i)) _ _ c.find.result c.find.ensures.ran (YieldsList-from_range 0 (length s / size) (length s / size) refl (omega arith)) (λ x b q k. search (rules, tests)) in
    sym (option_map_id _) ∙ e ∙ find_lowest bad s
