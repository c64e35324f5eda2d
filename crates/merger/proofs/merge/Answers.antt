use Rattle.std.specs.Prelude.{Ok, Err}
use mathlib.Core.Path.{◌≡◌}
use borrow.Author.Rules.{rules}
use Rattle.merger.proofs.Answering.{sizes_refused, sized, later_refused, deliverable, spacious, all_passed}
use Rattle.merger.proofs.merge.Goals as goal

pub returns-in-Err : goal.returns-in-Err
returns-in-Err c =
    let x = c.args in
    let q = c.sizes in
    let r = c.in-Err.reply in
    let e : q.result ≡ Err r = search rules in
    sizes_refused x.limit x.table.now x.nodes.now x.roots.now x.node_out.now x.root_out.now x.ids.now x.work.now q.result q.ensures r e

pub merged-requires : goal.merged-requires
merged-requires c =
    let x = c.args in
    let q = c.sizes in
    let e : q.result ≡ Ok tt = search rules in
    sized x.limit x.table.now x.nodes.now x.roots.now x.node_out.now x.root_out.now x.ids.now x.work.now q.result q.ensures e

pub deliver-requires : goal.deliver-requires
deliver-requires c =
    let x = c.args in
    let q = c.sizes in
    let e : q.result ≡ Ok tt = search rules in
    let k = c.merged in
    let m = c.in-Ok.m in
    let h = c.in-Ok.count in
    let y : k.result ≡ Ok (m, h) = search rules in
    record { fact = deliverable x.limit x.table.now x.nodes.now x.roots.now x.node_out.now x.root_out.now x.ids.now x.work.now q.result q.ensures e k.auto.work k.result k.ensures m h y; m_in_bounds = spacious x.limit x.table.now x.nodes.now x.roots.now x.node_out.now x.root_out.now x.ids.now x.work.now q.result q.ensures e k.auto.work k.result k.ensures m h y }

pub returns-in-Err-merged : goal.returns-in-Err-merged
returns-in-Err-merged c =
    let x = c.args in
    let q = c.sizes in
    let e : q.result ≡ Ok tt = search rules in
    let k = c.merged in
    let r = c.in-Err-merged.reply in
    let y : k.result ≡ Err r = search rules in
    later_refused x.limit x.table.now x.nodes.now x.roots.now x.node_out.now x.root_out.now x.ids.now x.work.now q.result q.ensures e k.auto.work k.result k.ensures c.clear.ensures r y

pub returns-in-Ok : goal.returns-in-Ok
returns-in-Ok c =
    let x = c.args in
    let q = c.sizes in
    let e : q.result ≡ Ok tt = search rules in
    let k = c.merged in
    let m = c.in-Ok.m in
    let h = c.in-Ok.count in
    let y : k.result ≡ Ok (m, h) = search rules in
    all_passed x.limit x.table.now x.nodes.now x.roots.now x.node_out.now x.root_out.now x.ids.now x.work.now q.result q.ensures e k.auto.work k.result k.ensures m h y c.clear-in-Ok.ensures c.deliver.ensures
