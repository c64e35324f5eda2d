-- What is known of the children of a position that are finished.
-- Assumes nothing.
use Prim.Native.Nat.{ℕ, ◌+◌, ◌<◌}
use mathlib.Core.Path.{◌≡◌}
use mathlib.Core.List.{List}
use native.Mathlib.Omega.{arith}
use lib.ListN.{length, get_or}
use Rattle.record.specs.Node.{node_at}
use Rattle.record.specs.declared.Node.{Node}
use Rattle.record.proofs.Nodes.{full_read}
use Rattle.dense_order.proofs.Records.{child_in}
use Rattle.merger.specs.Walking.{Readable}

pub kids_ended : {s b v : List ℕ} {p : ℕ} → Readable s b v p → (x : Node) → x ≡ node_at s p → (i : ℕ) → i < x.count → (get_or b p 0 + get_or x.kids i 0 < length v) × (1 < get_or v (get_or b p 0 + get_or x.kids i 0) 0)
kids_ended {s} {b} {v} {p} r x e i h = rw e (r.ended _ (child_in (node_at s p) i (rw e at h) (omega (arith, r.fit, (full_read s p).kids_long))))
