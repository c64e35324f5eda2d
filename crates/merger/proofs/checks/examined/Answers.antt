use Rattle.std.specs.Prelude.{Some, None}
use mathlib.Core.Path.{◌≡◌}
use borrow.Author.Rules.{rules}
use Rattle.merger.proofs.Examining.{record_refused, root_refused, child_refused, ranges_passed}
use Rattle.merger.proofs.checks.examined.Goals as goal

pub returns-in-Some : goal.returns-in-Some
returns-in-Some c =
    let x = c.args in
    let q = c.first_bad in
    let p = c.in-Some.p in
    let e : q.result ≡ Some p = search rules in
    record_refused x.table.now x.nodes.now x.roots.now q.result q.ensures p e

pub returns-in-Some-far_root : goal.returns-in-Some-far_root
returns-in-Some-far_root c =
    let x = c.args in
    let q = c.first_bad in
    let g : q.result ≡ None = search rules in
    let u = c.far_root in
    let p = c.in-Some-far_root.k in
    let e : u.result ≡ Some p = search rules in
    root_refused x.table.now x.nodes.now x.roots.now q.result q.ensures g u.result u.ensures p e

pub returns-in-Some-far_child : goal.returns-in-Some-far_child
returns-in-Some-far_child c =
    let x = c.args in
    let q = c.first_bad in
    let g : q.result ≡ None = search rules in
    let u = c.far_root in
    let h : u.result ≡ None = search rules in
    let v = c.far_child in
    let p = c.in-Some-far_child.p in
    let k = c.in-Some-far_child.child in
    let e : v.result ≡ Some (p, k) = search rules in
    child_refused x.table.now x.nodes.now x.roots.now q.result q.ensures g u.result u.ensures h v.result v.ensures p k e

pub returns : goal.returns
returns c =
    let x = c.args in
    let q = c.first_bad in
    let g : q.result ≡ None = search rules in
    let u = c.far_root in
    let h : u.result ≡ None = search rules in
    let v = c.far_child in
    let e : v.result ≡ None = search rules in
    ranges_passed x.table.now x.nodes.now x.roots.now q.result q.ensures g u.result u.ensures h v.result v.ensures e
