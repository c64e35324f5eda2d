-- Laws of loops that write numbers of any width, and of the writing of a record. Assumes nothing.
use Prim.Native.Nat.{ℕ, suc, ◌+◌, ◌*◌, ◌<◌, ◌≤◌}
use mathlib.Core.Path.{◌≡◌, sym, ◌∙◌, ap}
use mathlib.Core.List.{List, [], ◌∷◌, ◌++◌, append_assoc}
use native.Mathlib.Omega.{arith}
use native.Mathlib.Nat.{add-zero, add-suc, suc-add, mul-suc}
use native.Mathlib.Numerals.{add-one}
use lib.ListN.{length, drop, get_or, set, drop_of_length-le}
use borrow.Rule.Slice.PartMut.{put_mid}
use lib.Seq.{sets, sets-eq, length-sets, drop-cons, drop-drop}
use Rattle.std.specs.Int.{bytes_low_first}
use Rattle.record.specs.Lists.{over, flat}
use Rattle.record.specs.Node.{fields, size, node_bytes}
use Rattle.record.specs.Number.{bytes}
use Rattle.record.specs.declared.Node.{Node}
use Rattle.record.proofs.Numbers.{library_bytes}
use Rattle.record.proofs.Lengths.{length_bytes, length_words, Full, length_node_bytes}

-- stores that go on where others end
pub sets_append : (a b l : List ℕ) (i j : ℕ) → j ≡ i + length a → sets (sets l i a) j b ≡ sets l i (a ++ b)
sets_append [] b l i j e = ap (λ (k : ℕ). sets l k b) (e ∙ add-zero i)
sets_append (x ∷ a) b l i j e = sets_append a b (set l i x) (suc i) j (e ∙ add-suc i (length a) ∙ sym (suc-add i (length a)))

pub sets_over : (s new : List ℕ) (at : ℕ) → at + length new ≤ length s → sets s at new ≡ over s at new
unfolding over
sets_over s new at h = rw (sets-eq new s at h, append_assoc)

-- the k bytes that the library makes of a number, copied into as many places
pub copied : (k n x : ℕ) (s b : List ℕ) (at : ℕ) → n ≡ k → b ≡ bytes_low_first 0 k x → at + k ≤ length s → put_mid at n s b ≡ sets s at (bytes k x)
copied k n x s b at e p h =
    let q : b ≡ bytes k x = p ∙ library_bytes k x in
    let l = length_bytes k x in
    rw (q, e, sets-eq (bytes k x) s at (omega arith), append_assoc, drop-drop, l)

-- the first i of the numbers d, of k bytes each, are written into s₀ from place at on: what is still to be written makes the whole
pub record Putting (k : ℕ) (d s₀ : List ℕ) (at : ℕ) (s : List ℕ) (i : ℕ) : Type 0 where
  pub within : i ≤ length d
  pub kept : length s ≡ length s₀
  pub put : sets s₀ at (flat (bytes k) d) ≡ sets s (at + k * i) (flat (bytes k) (drop i d))

module _ {k : ℕ} {d s₀ : List ℕ} {at : ℕ} {s : List ℕ} {i : ℕ} (r : Putting k d s₀ at s i) where
  pub putting_step : {s₁ : List ℕ} → i < length d → s₁ ≡ sets s (at + k * i) (bytes k (get_or d i 0)) → Putting k d s₀ at s₁ (i + 1)
  unfolding flat
  putting_step h e =
      let p : at + k * (i + 1) ≡ at + k * i + length (bytes k (get_or d i 0)) = rw (length_bytes, add-one, mul-suc) (omega arith) in
      record {
        within = omega arith;
        kept = rw (e, length-sets) r.kept;
        put =
            r.put
            ∙ rw (e, sets_append (bytes k (get_or d i 0)) (flat (bytes k) (drop (i + 1) d)) s (at + k * i) _ p, add-one, drop-cons d i 0);
      }

  pub putting_end : length d ≤ i → s ≡ sets s₀ at (flat (bytes k) d)
  unfolding flat
  putting_end h = rw (r.put, drop_of_length-le d h)

-- the fields of a record, one after the other: each list is the one before it after a store
module _ (n : Node) (at : ℕ) (s : List ℕ) {s₁ s₂ s₃ s₄ : List ℕ} (h : at + size ≤ length s) (f : Full n) where
  pub put_fields : s₁ ≡ sets s at (bytes 4 n.kind)
      → s₂ ≡ sets s₁ (at + 4) (bytes 4 n.count)
      → s₃ ≡ sets s₂ (at + 8) (flat (bytes 4) n.kids)
      → s₄ ≡ sets s₃ (at + (8 + 4 * fields)) (flat (bytes 8) n.digest)
      → s₄ ≡ over s at (node_bytes n)
  unfolding node_bytes
  put_fields e₁ e₂ e₃ e₄ =
      rw (
        e₄,
        e₃,
        e₂,
        e₁,
        sets_append (flat (bytes 4) n.kids) (flat (bytes 8) n.digest) _ (at + 8) (at + (8 + 4 * fields)) (omega (arith, length_words 4 n.kids, f.kids_long)),
        sets_append (bytes 4 n.count) _ _ (at + 4) (at + 8) (omega (arith, length_bytes 4 n.count)),
        sets_append (bytes 4 n.kind) _ s at (at + 4) (omega (arith, length_bytes 4 n.kind)),
      )
      (sets_over s (node_bytes n) at (omega (arith, length_node_bytes n f)))
