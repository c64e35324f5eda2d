use Rattle.std.specs.Prelude.{Err}
use mathlib.Core.Path.{◌≡◌, refl}
use native.Mathlib.Omega.{arith}
use borrow.Author.Rules.{rules}
use Rattle.merger.proofs.Joining.{ranges_refused, past, walk_refused, over, cramped, whole}
use Rattle.merger.proofs.Passing.{sizes_fit}
use Rattle.merger.proofs.merged.Goals as goal

pub invariant_of-table : goal.invariant_of-table
invariant_of-table c = record { few = (sizes_fit c.requires).few; octets = λ j. omega (arith, c.type_inv.table j) }

pub examined-requires : goal.examined-requires
examined-requires c = let z = sizes_fit c.requires in record { nodes_len = (z.nodes, z.roots) }

pub returns-in_err-examined : goal.returns-in_err-examined
returns-in_err-examined c =
    let x = c.args in
    let q = c.examined in
    let same : c.from_residual.result ≡ Err c.in_err-examined.field-0.0 = search rules in
    rw same (ranges_refused x.records x.starts _ c.requires q.result q.ensures _ c.in_err-examined.was)

pub walked-requires : goal.walked-requires
walked-requires c =
    let x = c.args in
    let q = c.examined in
    record { past = past x.records x.starts 0 c.requires q.result q.ensures c.in_ok-examined.was; n_value = refl }

pub returns-in_err-m : goal.returns-in_err-m
returns-in_err-m c =
    let x = c.args in
    let q = c.examined in
    let a = past x.records x.starts 0 c.requires q.result q.ensures c.in_ok-examined.was in
    let k = c.walked in
    let same : c.from_residual-in_err-m.result ≡ Err c.in_err-m.field-0.0 = search rules in
    rw same (walk_refused x.records x.starts _ a k.ensures _ c.in_err-m.was)

pub settle-count-requires : goal.settle-count-requires
settle-count-requires c =
    let x = c.args in
    let q = c.examined in
    let a = past x.records x.starts 0 c.requires q.result q.ensures c.in_ok-examined.was in
    let k = c.walked in
    let z = sizes_fit c.requires in
    record { roots_len = z.roots; over = over x.records x.starts _ a k.ensures _ c.in_ok-m.was }

pub returns-then-records-m : goal.returns-then-records-m
returns-then-records-m c =
    let x = c.args in
    let q = c.examined in
    let a = past x.records x.starts 0 c.requires q.result q.ensures c.in_ok-examined.was in
    let k = c.walked in
    let t = c.settle-count in
    cramped x.records x.starts _ a k.ensures _ c.in_ok-m.was t.ensures c.if-records-m.true

pub returns : goal.returns
returns c =
    let x = c.args in
    let q = c.examined in
    let a = past x.records x.starts 0 c.requires q.result q.ensures c.in_ok-examined.was in
    let k = c.walked in
    let t = c.settle-count in
    whole x.records x.starts _ a k.ensures _ c.in_ok-m.was t.ensures c.if-records-m.false
