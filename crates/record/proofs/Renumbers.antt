-- A loop over all child fields that puts another number in the place of each child.
-- Assumes nothing.
use Prim.Native.Nat.{ℕ, ◌+◌, ◌-◌, ◌<◌, ◌≤◌}
use mathlib.Core.Path.{◌≡◌, refl, sym, ◌∙◌, ap}
use mathlib.Core.List.{List, ◌++◌, map}
use native.Mathlib.Omega.{arith}
use native.Mathlib.Decide.{dec_lt}
use Rattle.std.proofs.lemmas.List.{get_or-map, get_or_append_left, get_or-append_right}
use lib.ListN.{length, take, drop, get_or, length-append, length-map, length-take, length-drop}
use lib.Seq.{ext_get_or, get_or-take, get_or-drop}
use Rattle.record.specs.Node.{children}
use Rattle.record.specs.declared.Node.{Node}

-- the first i fields are done: each child c stands as a number to which P takes it; all else is as it was
pub record Renumbering (P : ℕ → ℕ → Type 0) (n : Node) (ks : List ℕ) (i : ℕ) : Type 0 where
  pub long : length ks ≡ length n.kids
  pub done : (j : ℕ) → j < i → j < n.count → P (get_or n.kids j 0) (get_or ks j 0)
  pub same : (j : ℕ) → (j < i → n.count ≤ j) → get_or ks j 0 ≡ get_or n.kids j 0

pub renumbering_start : (P : ℕ → ℕ → Type 0) (n : Node) → Renumbering P n n.kids 0
renumbering_start P n = record { long = refl; done = λ j h k. absurd (omega arith); same = λ j f. refl }

module _ {P : ℕ → ℕ → Type 0} {n : Node} {ks : List ℕ} {i : ℕ} (r : Renumbering P n ks i) where
  -- a field that is still to be looked at is as it was
  pub kid_here : get_or ks i 0 ≡ get_or n.kids i 0
  kid_here = r.same i (λ h. omega arith)

  pub renumbering_end : length ks ≤ i → n.count ≤ length n.kids → (g : ℕ → ℕ) → ((j d : ℕ) → j < n.count → P (get_or n.kids j 0) d → d ≡ g (get_or n.kids j 0)) → ks ≡ map g (children n) ++ drop n.count n.kids
  unfolding children
  renumbering_end h k g f =
      let t : length (map g (take n.count n.kids)) ≡ n.count = length-map (take n.count n.kids) g ∙ length-take n.count n.kids ∙ omega arith in
      ext_get_or 0 ks (map g (take n.count n.kids) ++ drop n.count n.kids) (r.long ∙ sym (simp (length-append, length-drop) (omega arith))) (λ j b. go j b t (dec_lt j n.count))
    where
      go : (j : ℕ) → j < length ks → length (map g (take n.count n.kids)) ≡ n.count → Dec (j < n.count) → get_or ks j 0 ≡ get_or (map g (take n.count n.kids) ++ drop n.count n.kids) j 0
      go j b t (yes c) =
          f j (get_or ks j 0) c (r.done j (omega arith) c)
          ∙ sym (get_or_append_left (map g (take n.count n.kids)) (drop n.count n.kids) 0 j (omega arith) ∙ (get_or-map g (take n.count n.kids) j 0 0 (omega (arith, length-take n.count n.kids)) ∙ ap g (get_or-take n.count n.kids j 0 c)))
      go j b t (no c) =
          r.same j (λ z. omega arith)
          ∙ sym (get_or-append_right (map g (take n.count n.kids)) (drop n.count n.kids) n.count j 0 t (omega arith)
          ∙ (get_or-drop n.count n.kids (j - n.count) 0 ∙ (let z : n.count + (j - n.count) ≡ j = omega arith in rw z refl)))
