use Rattle.std.proofs.Common.{rules, tests, ◌≡◌, ℕ, Bool, take, ◌∙◌}
use Rattle.std.specs.List.{position}
use Rattle.std.proofs.lemmas.List.{get_or_read}
use Rattle.std.proofs.lemmas.Iterator.{YieldsList-from_slice}
use Rattle.std.proofs.lemmas.Iterator.Adapters.{serves_from_places}
use Rattle.std.proofs.lemmas.Iterator.Search.{position_from_yields_List}
use Rattle.record.specs.Node.{same_node}
use Rattle.dense_order.proofs.Lowest.{position_lowest, lowest_map}
use Rattle.merger.specs.Walking.{Readable, merged_at}
use Rattle.merger.proofs.merging.Walk.find_equal.Goals as goal

pub position-requires-clause-callable : goal.position-requires-clause-callable
position-requires-clause-callable c =
    let w = c.args.self.now in
    let found = take c.args.count w.sources.now in
    serves_from_places (YieldsList-from_slice found cc) (λ x q k. search (rules, tests)) (λ x k l e.
    let r : Readable w.nodes.now w.bases.now w.states.now x.now = rw (get_or_read found k x.now l e 0) (c.requires.readable k l) in
    search rules)

pub returns : goal.returns
returns c =
    let x = c.args.self.now in
    let like : ℕ → Bool = λ q. same_node c.args.node (merged_at x.nodes.now x.bases.now x.states.now q) in
    let found = take c.args.count x.sources.now in
    let e : c.position.result ≡ position like found = position_from_yields_List like _ _ c.position.result c.position.ensures.ran (YieldsList-from_slice found cc) (λ q b i k. search (rules, tests)) in
    e ∙ position_lowest _ _ ∙ lowest_map _ _ _
