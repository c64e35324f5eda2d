-- Laws of a loop that writes one record after the other, and of the nodes in their order.
-- Assumes nothing.
use Prim.Native.Nat.{ℕ, ◌+◌, ◌*◌, ◌<◌, ◌≤◌}
use mathlib.Core.Path.{◌≡◌, refl}
use mathlib.Core.List.{List, [], ◌∷◌, ◌++◌, map, map-append, append-nil, append_assoc, Memᴰ}
use native.Mathlib.Omega.{arith}
use native.Mathlib.Numerals.{add-one}
use lib.ListN.{length, take, drop, get_or, length-append, length-drop, length-take}
use lib.Seq.{get_or-take, take_all, take-suc, take_at, drop-append-add, drop-drop, length-take-le}
use Rattle.record.specs.Lists.{over, flat}
use Rattle.record.specs.Node.{fields, size, node_at, node_bytes, children, renumber}
use Rattle.record.specs.declared.Node.{Node}
use Rattle.record.proofs.Lengths.{Full, length_node_bytes}
use Rattle.record.proofs.Nodes.{full_read, full_renumber}
use Rattle.dense_order.specs.Marks.{new_id, Placed, Writable}
use Rattle.claims.specs.Searches.{get_d_mem}

flat_append : {A B : Type 0} (f : A → List B) (a b : List A) → flat f (a ++ b) ≡ flat f a ++ flat f b
unfolding flat
flat_append f [] b = refl
flat_append f (x ∷ a) b = rw (flat_append f a b, append_assoc)

-- writing over what comes first behind a
over_behind : {B : Type 0} (a new l : List B) (at : ℕ) → length a ≡ at → over (a ++ drop at l) at new ≡ (a ++ new) ++ drop (at + length new) l
unfolding over
over_behind a new l at e = rw (take_at a (drop at l) at e, ← e, drop-append-add a (drop (length a) l) (length new), drop-drop (length new) (length a) l, append_assoc)

-- the first k records of out are those of g of the first k of ps, what follows them is as in out₀
pub record Wrote (g : ℕ → Node) (ps out₀ out : List ℕ) (k : ℕ) : Type 0 where
  pub within : k ≤ length ps
  pub room : size * length ps ≤ length out₀
  pub held : out ≡ flat node_bytes (map g (take k ps)) ++ drop (size * k) out₀

pub wrote_start : (g : ℕ → Node) (ps out : List ℕ) → size * length ps ≤ length out → Wrote g ps out out 0
unfolding flat
wrote_start g ps out h = record { within = omega arith; room = h; held = refl }

records_long : (g : ℕ → Node) → ((p : ℕ) → Full (g p)) → (l : List ℕ) → length (flat node_bytes (map g l)) ≡ size * length l
unfolding flat
records_long g full [] = omega arith
records_long g full (p ∷ l) = simp (length-append, length_node_bytes (g p) (full p), records_long g full l) (omega arith)

module _ {g : ℕ → Node} {ps out₀ out : List ℕ} {k : ℕ} (full : (p : ℕ) → Full (g p)) (r : Wrote g ps out₀ out k) where
  front_long : length (flat node_bytes (map g (take k ps))) ≡ size * k
  front_long = rw (records_long g full (take k ps), length-take-le k ps r.within) refl

  pub wrote_long : length out ≡ length out₀
  wrote_long = rw r.held (simp (length-append, front_long, length-drop) (let a = r.room in let b = r.within in omega arith))

  pub wrote_step : {out₁ : List ℕ} → k < length ps → out₁ ≡ over out (size * k) (node_bytes (g (get_or ps k 0))) → Wrote g ps out₀ out₁ (k + 1)
  unfolding flat
  wrote_step h e =
      let new : List ℕ = node_bytes (g (get_or ps k 0)) in
      let l : size * k + length new ≡ size * (k + 1) = omega (arith, length_node_bytes (g (get_or ps k 0)) (full (get_or ps k 0))) in
      let t : flat node_bytes (map g (take (k + 1) ps)) ≡ flat node_bytes (map g (take k ps)) ++ new = rw (add-one, take-suc ps k 0 h, map-append g (take k ps) (get_or ps k 0 ∷ []), flat_append node_bytes (map g (take k ps)) (g (get_or ps k 0) ∷ []), append-nil) in
      record {
        within = omega arith;
        room = r.room;
        held = rw (e, r.held, over_behind (flat node_bytes (map g (take k ps))) new out₀ (size * k) front_long, t, l);
      }

  pub wrote_over : length ps ≤ k → out ≡ over out₀ 0 (flat node_bytes (map g ps))
  unfolding over
  wrote_over h =
      let a = r.within in
      let e : k ≡ length ps = omega arith in
      let l : 0 + length (flat node_bytes (map g ps)) ≡ size * k = omega (arith, records_long g full ps) in
      rw (r.held, take_all k ps h, l)

-- THE NODES IN THEIR ORDER ------------------------------------------------------------------------

-- the node of id p with the new ids of its children
abbrev pub moved : List ℕ → List ℕ → ℕ → Node
moved s m p = renumber (new_id m) (node_at s p)

-- a child field below the count is one of the children
pub child_in : (n : Node) (j : ℕ) → j < n.count → n.count ≤ length n.kids → Memᴰ (get_or n.kids j 0) (children n)
unfolding children
child_in n j h k = rw (← (get_or-take n.count n.kids j 0 h)) (get_d_mem (take n.count n.kids) j 0 (omega (arith, length-take n.count n.kids)))

moved_full : (s m : List ℕ) (p : ℕ) → Full (moved s m p)
moved_full s m p = full_renumber (new_id m) (node_at s p) (full_read s p)

module _ {s o m out₀ : List ℕ} (b : Writable s o m out₀) where
  pub moving_start : Wrote (moved s m) o out₀ out₀ 0
  moving_start = wrote_start (moved s m) o out₀ (let a = b.room in omega arith)

  -- the record of the id that is looked at is there, and its node can be renumbered
  module _ {k : ℕ} (h : k < length o) where
    pub moving_inside : size * get_or o k 0 + size ≤ length s
    moving_inside = b.inside (get_or o k 0) (get_d_mem o k 0 h)

    pub moving_ready : (node : Node) → node ≡ node_at s (get_or o k 0) → (node.count ≤ fields) × ((j : ℕ) → j < node.count → Placed m (get_or node.kids j 0))
    moving_ready node e =
        let i = get_d_mem o k 0 h in
        let f = b.few (get_or o k 0) i in
        rw e (f, λ j l. b.placed (get_or o k 0) i _ (child_in (node_at s (get_or o k 0)) j l (omega (arith, f, (full_read s (get_or o k 0)).kids_long))))

  module _ {out : List ℕ} {k : ℕ} (r : Wrote (moved s m) o out₀ out k) where
    pub moving_step : {out₁ : List ℕ} (node new : Node) → k < length o → node ≡ node_at s (get_or o k 0) → new ≡ renumber (new_id m) node → out₁ ≡ over out (size * k) (node_bytes new)
        → Wrote (moved s m) o out₀ out₁ (k + 1)
    moving_step node new h e f q = wrote_step (moved_full s m) r h (rw (q, f, e))
