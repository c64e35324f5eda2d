use Rattle.std.specs.Prelude.{Some, None}
use mathlib.Core.Path.{◌≡◌, sym, ◌∙◌}
use native.Mathlib.Omega.{arith}
use borrow.Author.Rules.{rules}
use Rattle.record.specs.Node.{nodes_of}
use Rattle.dense_order.proofs.Fairness.{fair}
use Rattle.dense_order.proofs.Arranging.{refuses, duplicate, too_far, cyclic, passes, externals_numbered, one_repeats, none_repeats}
use Rattle.dense_order.proofs.rearranged.Goals as goal

pub repeated-requires : goal.repeated-requires
repeated-requires c =
    let k = c.list_externals-externals in
    record { count_in_bounds = let x = k.ensures.some in let l = k.auto.work in let z = c.requires.blank.room in omega arith; listed = externals_numbered k.ensures }

pub returns-in-Some : goal.returns-in-Some
returns-in-Some c =
    let s = c.args.nodes.now in
    let k = c.list_externals-externals in
    let q = c.repeated in
    let p = c.in-Some.p in
    let e : q.result ≡ Some p = search rules in
    refuses _ (duplicate (nodes_of s) p (one_repeats k.ensures _ q.ensures p e))

pub returns-in-Some-far_child : goal.returns-in-Some-far_child
returns-in-Some-far_child c =
    let s = c.args.nodes.now in
    let k = c.list_externals-externals in
    let q = c.repeated in
    let e : q.result ≡ None = search rules in
    let d = none_repeats k.ensures _ q.ensures e in
    let h = c.far_child in
    let p = c.in-Some-far_child.p in
    let v = c.in-Some-far_child.child in
    let y : h.result ≡ Some (p, v) = search rules in
    refuses _ (too_far (nodes_of s) d _ p v h.ensures y)

pub final_dense_node_order-requires : goal.final_dense_node_order-requires
final_dense_node_order-requires c =
    let s = c.args.nodes.now in
    let k = c.list_externals-externals in
    let h = c.far_child in
    let y : h.result ≡ None = search rules in
    let i = (sym h.ensures ∙ y) in
    record { fair = fair c.requires.blank.counted c.requires.blank.few c.requires.nodes_value i; n_in_bounds = let l = k.auto.work in let z = c.requires.blank.room in omega arith; externals = k.ensures }

pub returns-in-Some-final_dense_node_order : goal.returns-in-Some-final_dense_node_order
returns-in-Some-final_dense_node_order c =
    let s = c.args.nodes.now in
    let k = c.list_externals-externals in
    let q = c.repeated in
    let e : q.result ≡ None = search rules in
    let d = none_repeats k.ensures _ q.ensures e in
    let h = c.far_child in
    let y : h.result ≡ None = search rules in
    let i = (sym h.ensures ∙ y) in
    let o = c.final_dense_node_order in
    let p = c.in-Some-final_dense_node_order.p in
    let x : o.result ≡ Some p = search rules in
    refuses _ (cyclic (nodes_of s) d i p (sym o.ensures.answer ∙ x))

pub returns : goal.returns
returns c =
    let s = c.args.nodes.now in
    let k = c.list_externals-externals in
    let q = c.repeated in
    let e : q.result ≡ None = search rules in
    let d = none_repeats k.ensures _ q.ensures e in
    let h = c.far_child in
    let y : h.result ≡ None = search rules in
    let i = (sym h.ensures ∙ y) in
    let o = c.final_dense_node_order in
    let x : o.result ≡ None = search rules in
    passes d i o.ensures x
