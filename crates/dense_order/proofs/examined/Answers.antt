use Rattle.std.specs.Prelude.{Some, None}
use mathlib.Core.Path.{◌≡◌, sym, ◌∙◌}
use borrow.Author.Rules.{rules}
use Rattle.dense_order.proofs.Arranging.{refuses, record_refused, records_good, root_refused, onward, blank_room}
use Rattle.dense_order.proofs.examined.Goals as goal

pub returns-in-Some : goal.returns-in-Some
returns-in-Some c =
    let s = c.args.nodes.now in
    let rs = c.args.roots.now in
    let a = c.requires in
    let q = c.first_bad in
    let p = c.in-Some.p in
    let e : q.result ≡ Some p = search rules in
    refuses _ (record_refused s rs p (sym q.ensures ∙ e))

pub returns-in-Some-far_root : goal.returns-in-Some-far_root
returns-in-Some-far_root c =
    let s = c.args.nodes.now in
    let rs = c.args.roots.now in
    let a = c.requires in
    let q = c.first_bad in
    let e : q.result ≡ None = search rules in
    let g = records_good s (sym q.ensures ∙ e) in
    let t = c.far_root in
    let p = c.in-Some-far_root.i in
    let y : t.result ≡ Some p = search rules in
    refuses _ (root_refused s rs a.counted g p (sym t.ensures ∙ y))

pub arranged-requires : goal.arranged-requires
arranged-requires c =
    let s = c.args.nodes.now in
    let rs = c.args.roots.now in
    let a = c.requires in
    let q = c.first_bad in
    let e : q.result ≡ None = search rules in
    let g = records_good s (sym q.ensures ∙ e) in
    record { blank = blank_room a c.clear.ensures; nodes_value = g }

pub returns : goal.returns
returns c =
    let s = c.args.nodes.now in
    let rs = c.args.roots.now in
    let a = c.requires in
    let q = c.first_bad in
    let e : q.result ≡ None = search rules in
    let g = records_good s (sym q.ensures ∙ e) in
    let t = c.far_root in
    let y : t.result ≡ None = search rules in
    let i = (sym t.ensures ∙ y) in
    onward s rs a.counted g i c.arranged.ensures
