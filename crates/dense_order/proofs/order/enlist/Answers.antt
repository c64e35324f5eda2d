use Prim.Native.Nat.{◌/◌, ◌<◌}
use lib.ListN.{length, length-set}
use native.Mathlib.Omega.{arith}
use mathlib.Core.Path.{◌≡◌, ap, ◌∙◌}
use mathlib.Core.Bool.{not}
use Rattle.record.specs.Node.{size, class, is_internal, node_at}
use Rattle.record.specs.declared.Class.TheVariants.{Internal}
use Rattle.record.proofs.Classes.{class_eq, class_read}
use Rattle.dense_order.proofs.Opening.{enlists_plain, enlists_ready, test_plain, test_ready}
use Rattle.dense_order.proofs.order.enlist.Goals as goal
use Rattle.dense_order.proofs.order.enlist.Goals.{Start, After-ne}

-- what the code compares
compared : (c : After-ne) → c.ne.result ≡ not (is_internal (node_at c.args.nodes.now c.args.p))
unfolding is_internal
compared c =
    let n = node_at c.args.nodes.now c.args.p in
    let e : c.class_of-class.result ≡ class n = class_read n c.kind_at.ensures c.class_of-class.ensures in
    c.ne.ensures ∙ ap not (class_eq c.class_of-class.result Internal ∙ rw e)

-- p is a node
in_nodes : (s : Start) → s.args.p < length s.args.nodes.now / size
in_nodes s = let l = s.requires.enlisted.long in omega (arith, s.requires.p_lt_n)

pub returns-then-ne-count : goal.returns-then-ne-count
returns-then-ne-count c =
    let e = c.requires.enlisted in
    let h = in_nodes (goal.at.returns-then-ne-count c).Start in
    let l = c.link_kids-count.ensures in
    enlists_plain e h l (test_plain e h l _ (compared (goal.at.returns-then-ne-count c).After-ne) c.if-ne-count.true)

pub returns : goal.returns
returns c =
    let e = c.requires.enlisted in
    let h = in_nodes (goal.at.returns c).Start in
    let l = c.link_kids-count.ensures in
    let k = rw (length-set c.args.counts.now c.args.p c.link_kids-count.result, e.long) at c.put.ensures in
    enlists_ready e h l _ (test_ready e h l _ (compared (goal.at.returns c).After-ne) c.if-ne-count.false) k
