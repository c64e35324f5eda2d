use Rattle.record.specs.declared.Node.{Node}
use Rattle.record.specs.Node.{children}
use Rattle.record.specs.Lists.{same}
use Rattle.merger.proofs.Likes.{own_fits, unlike_front, front_kind, unlike_digest, like_by_children}
use mathlib.Core.Path.{sym, ◌∙◌, ap}
use native.Mathlib.Omega.{arith}
use Rattle.merger.proofs.merging.Walk.is_like.Goals as goal

pub overflow_cast-q : goal.overflow_cast-q
overflow_cast-q c = omega (arith, c.requires.readable.few, c.requires.readable.below)

pub returns-then-kind-node : goal.returns-then-kind-node
returns-then-kind-node c = unlike_front _ _ _ _ c.args.node _ _ c.kind_at-kind.ensures c.digest_at-digest.ensures c.if-kind-node.true

pub returns-then-not-has_digest : goal.returns-then-not-has_digest
returns-then-not-has_digest c = unlike_digest _ _ _ _ c.args.node (sym c.has_digest.ensures ∙ c.if-not-has_digest.true)

pub same_children-requires : goal.same_children-requires
same_children-requires c = (c.requires.count_le_fields, own_fits _ _ _ _ c.args.node c.requires.readable.fit c.merged.ensures)

pub returns : goal.returns
returns c = like_by_children _ _ _ _ c.args.node (front_kind _ c.args.self.now.bases.now c.args.self.now.states.now _ c.args.node _ _ c.kind_at-kind.ensures c.digest_at-digest.ensures c.if-kind-node.false) (sym c.has_digest.ensures ∙ c.if-not-has_digest.false) (c.same_children.ensures ∙ ap (λ (y : Node). same (children c.args.node) (children y)) c.merged.ensures)
