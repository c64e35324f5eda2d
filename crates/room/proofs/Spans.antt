-- Laws of sections: their length, their elements, what a store does to them.
-- Assumes nothing.
use Prim.Native.Nat.{ℕ, suc, ◌+◌, ◌-◌, ◌<◌, ◌≤◌}
use mathlib.Core.Path.{◌≡◌, refl, sym, ◌∙◌, ap}
use mathlib.Core.List.{List, [], ◌∷◌, ◌++◌}
use native.Mathlib.Omega.{arith}
use native.Mathlib.Numerals.{add-one}
use lib.ListN.{length, drop, get_or, set, length-take, length-drop, length-set}
use Rattle.room.specs.Sections.{span}
use lib.Seq.{take-add, drop-drop, drop-cons, ext_get_or, get_or-take, get_or-drop, get_or-set_same, get_or-set_other}

pub span_length : (w : List ℕ) (a e : ℕ) → e ≤ length w → length (span w a e) ≡ e - a
unfolding span
span_length w a e h = simp (length-take, length-drop) (omega arith)

pub span_at : (w : List ℕ) (a e i : ℕ) → i < e - a → get_or (span w a e) i 0 ≡ get_or w (a + i) 0
unfolding span
span_at w a e i h = rw (get_or-take (e - a) (drop a w) i 0 h, get_or-drop a w i 0)

pub span_empty : (w : List ℕ) (a e : ℕ) → e ≤ a → span w a e ≡ []
unfolding span
span_empty w a e h = let z : e - a ≡ 0 = omega arith in rw z

pub span_next : (w : List ℕ) (a e : ℕ) → a < e → a < length w → span w a e ≡ get_or w a 0 ∷ span w (a + 1) e
unfolding span
span_next w a e h k = let z : e - a ≡ suc (e - (a + 1)) = omega arith in rw (z, add-one, drop-cons w a 0 k)

pub span_join : (w : List ℕ) (a m e : ℕ) → a ≤ m → m ≤ e → span w a e ≡ span w a m ++ span w m e
unfolding span
span_join w a m e h k =
    let z : e - a ≡ (m - a) + (e - m) = omega arith in
    let y : a + (m - a) ≡ m = omega arith in
    rw (z, take-add (m - a) (e - m) (drop a w), drop-drop (m - a) a w, y)

pub span_last : (w : List ℕ) (a e : ℕ) → a ≤ e → e < length w → span w a (e + 1) ≡ span w a e ++ get_or w e 0 ∷ []
span_last w a e h k =
    let z : length w ≡ length w = refl in
    span_join w a e (e + 1) h (omega arith) ∙ ap (λ (l : List ℕ). span w a e ++ l) (span_next w e (e + 1) (omega arith) k ∙ ap (λ (l : List ℕ). get_or w e 0 ∷ l) (span_empty w (e + 1) (e + 1) (omega arith)))

-- two parts are the same if they are place by place
pub span_same : (w v : List ℕ) (a e : ℕ) → length w ≡ length v → e ≤ length v → ((p : ℕ) → a ≤ p → p < e → get_or w p 0 ≡ get_or v p 0) → span w a e ≡ span v a e
span_same w v a e s h f =
    let p : length (span w a e) ≡ e - a = span_length w a e (omega arith) in
    let q : length (span v a e) ≡ e - a = span_length v a e h in
    ext_get_or 0 (span w a e) (span v a e) (p ∙ sym q) (λ i l. span_at w a e i (omega arith) ∙ (f (a + i) (omega arith) (omega arith) ∙ sym (span_at v a e i (omega arith))))

-- a store behind the part makes it longer by one
pub span_set : (w : List ℕ) (a k v : ℕ) → a ≤ k → k < length w → span (set w k v) a (k + 1) ≡ span w a k ++ v ∷ []
span_set w a k v h l =
    let n : length (set w k v) ≡ length w = length-set w k v in
    span_last (set w k v) a k h (omega arith)
    ∙ rw (get_or-set_same w k v 0 l, span_same (set w k v) w a k n (omega arith) (λ p x y. get_or-set_other w k p v 0 (λ e. omega arith)))
