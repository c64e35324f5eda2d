use Rattle.std.specs.Prelude.{Ok, Err}
use mathlib.Core.Path.{◌≡◌, refl}
use borrow.Author.Rules.{rules}
use Rattle.dense_order.proofs.Answering.{lengths, fitting, deliverable, sizes_refused, forest_refused, all_passed}
use Rattle.dense_order.proofs.canonicalize.Goals as goal

pub returns-in-Err : goal.returns-in-Err
returns-in-Err c =
    let x = c.args in
    let q = c.sizes in
    let r = c.in-Err.reply in
    let e : q.result ≡ Err r = search rules in
    sizes_refused x.nodes.now x.roots.now x.node_out.now x.root_out.now x.ids.now x.work.now q.result q.ensures r e

pub examined-requires : goal.examined-requires
examined-requires c =
    let x = c.args in
    let q = c.sizes in
    let e : q.result ≡ (Ok tt) = search rules in
    fitting x.nodes.now x.roots.now x.node_out.now x.root_out.now x.ids.now x.work.now q.result q.ensures e refl

pub returns-in-Err-examined : goal.returns-in-Err-examined
returns-in-Err-examined c =
    let x = c.args in
    let q = c.sizes in
    let e : q.result ≡ (Ok tt) = search rules in
    let k = c.examined in
    let r = c.in-Err-examined.reply in
    let y : k.result ≡ Err r = search rules in
    forest_refused x.nodes.now x.roots.now x.node_out.now x.root_out.now x.ids.now x.work.now q.result q.ensures e k.auto.work k.result k.ensures c.clear.ensures r y

pub deliver-requires : goal.deliver-requires
deliver-requires c =
    let x = c.args in
    let q = c.sizes in
    let e : q.result ≡ (Ok tt) = search rules in
    let k = c.examined in
    let y : k.result ≡ (Ok tt) = search rules in
    let z = lengths x.nodes.now x.roots.now x.node_out.now x.root_out.now x.ids.now x.work.now q.result q.ensures e in
    record { deliverable = deliverable x.nodes.now x.roots.now x.node_out.now x.root_out.now x.ids.now x.work.now q.result q.ensures e k.auto.work k.result k.ensures y; node_out_len = (z.records, (z.starts, z.list)) }

pub returns : goal.returns
returns c =
    let x = c.args in
    let q = c.sizes in
    let e : q.result ≡ (Ok tt) = search rules in
    let k = c.examined in
    let y : k.result ≡ (Ok tt) = search rules in
    let t = c.deliver in
    all_passed x.nodes.now x.roots.now x.node_out.now x.root_out.now x.ids.now x.work.now q.result q.ensures e k.auto.work k.result k.ensures c.clear-2.ensures y t.auto.node_out t.auto.root_out t.ensures
