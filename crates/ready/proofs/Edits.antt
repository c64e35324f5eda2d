-- Laws of putting and removing an id: its bit in the row, and when the row above is to be changed too.
-- Assumes nothing.
use Prim.Native.Nat.{ℕ, ◌+◌, ◌-◌, ◌*◌, ◌/◌, ◌%◌, ◌^◌, ◌≤◌, ◌<◌}
use mathlib.Core.Path.{◌≡◌, ap, sym, ◌∙◌}
use mathlib.Core.Bool.{Bool, true, false, not, ◌||◌}
use mathlib.Core.List.{List}
use mathlib.Core.Logic.{◌⊎◌, inl, inr}
use native.Mathlib.Decide.{dec_lt, ℕ_discrete}
use native.Mathlib.Omega.{arith}
use borrow.Author.Tests.{ltb-true, ltb-false, leb-false, lt-leb, ne_eqb}
use lib.Bits.{bit_and, bit_or, bit_xor, and_zero_l, xor_zero_l}
use lib.Dec.{leb, ltb, eqb, lit<}
use lib.ListN.{length, take, drop, get_or, set, length-set, length-drop, length-take}
use lib.Seq.{get_or-take, take_all}
use borrow.Rule.Slice.PartMut.{put_mid, same_len_mid}
use Rattle.std.proofs.lemmas.Slice.{take-put_mid_below, between-put_mid}
use lib.Pow.{shl_exact}
use Rattle.record.proofs.Basics.{either_false}
use Rattle.ready.specs.Tree.{width, words, word, Tree, Changed}
use Rattle.ready.proofs.Bits.{bit_zero, set_same, set_other, cut_same, cut_other}
use Rattle.ready.proofs.Trees.{tells, row_of, above_count, Edit, changed_here, changed_above, above_edited}

-- bit k alone, as a word
abbrev pub alone : ℕ → ℕ
alone k = 1 * 2 ^ k % 4294967296

alone_is : (k : ℕ) → k < width → alone k ≡ 2 ^ k
alone_is k h = shl_exact 1 k width (lit< tt) (omega arith) ∙ (let z : 1 * 2 ^ k ≡ 2 ^ k = omega arith in z)

set_edit : (old k : ℕ) → k < width → Edit true old (bit_or old (alone k)) k
set_edit old k h = rw (alone_is k h) (record { own = tells (set_same old k); others = set_other old k })

cut_edit : (old k : ℕ) → k < width → Edit false old (bit_xor old (bit_and old (alone k))) k
cut_edit old k h = rw (alone_is k h) (record { own = tells (cut_same old k); others = cut_other old k })

-- a word with a set bit is not 0, and nothing can be cut from 0
set_some : (old k : ℕ) → k < width → not (eqb (bit_or old (alone k)) 0) ≡ true
set_some old k h =
    ap not (ne_eqb (bit_or old (alone k)) 0 (λ z. let e = rw (alone_is k h) at z in let s = set_same old k in let y = rw (e, bit_zero k) at s in omega arith))

cut_none : (k : ℕ) → bit_xor 0 (bit_and 0 (alone k)) ≡ 0
cut_none k = rw (and_zero_l (alone k)) (xor_zero_l 0)

some : (y : ℕ) → 0 < y → not (eqb y 0) ≡ true
some y h = ap not (ne_eqb y 0 (omega arith))

-- what the tests tell
stops : (n y : ℕ) → (leb n width || ltb 0 y) ≡ true → (n ≤ width) ⊎ (0 < y)
stops n y e =
    elim (dec_lt width n) [
      | no q ↦ inl (omega arith)
      | yes q ↦ inr (ltb-true 0 y (let z = rw (lt-leb n width q) at e in z))
    ]

climbs : (n y : ℕ) → (leb n width || ltb 0 y) ≡ false → (width < n) × (y ≡ 0)
climbs n y e = let (a, b) = either_false (leb n width) (ltb 0 y) e in (leb-false n width a, (let z = ltb-false 0 y b in omega arith))

-- THE ROWS ABOVE ----------------------------------------------------------------------------------

-- what is lent from place k on, and the list when v has come back for it
pub behind : (k : ℕ) (l : List ℕ) → take (length l - k) (drop k l) ≡ drop k l
behind k l = take_all (length l - k) (drop k l) (simp length-drop (omega arith))

module _ (k : ℕ) (l v : List ℕ) (h : k ≤ length l) (e : length v ≡ length (take (length l - k) (drop k l))) where
  abbrev pub back : List ℕ
  back = put_mid k (length l - k) l v

  pub back_long : length back ≡ length l
  back_long = same_len_mid k (length l - k) l v e

  pub back_before : (p : ℕ) → p < k → get_or back p 0 ≡ get_or l p 0
  back_before p a = sym (get_or-take k back p 0 a) ∙ (ap (λ (x : List ℕ). get_or x p 0) (take-put_mid_below k (length l - k) l v k (omega arith) h) ∙ get_or-take k l p 0 a)

  pub back_behind : drop k back ≡ v
  back_behind =
      let n : length v ≡ length l - k = e ∙ simp (length-take, length-drop) (omega arith) in
      sym (take_all (length l - k) (drop k back) (simp length-drop (let z = back_long in omega arith))) ∙ between-put_mid k (length l - k) l v (length l) h n

-- PUTTING AND REMOVING ------------------------------------------------------------------------------

-- the word of id i, with its bit set and with it cut
abbrev pub old : List ℕ → ℕ → ℕ
old w i = word w (i / width)

abbrev pub filled : List ℕ → ℕ → ℕ
filled w i = bit_or (old w i) (alone (i % width))

abbrev pub cut : List ℕ → ℕ → ℕ
cut w i = bit_xor (old w i) (bit_and (old w i) (alone (i % width)))

-- how many words the row of n bits has, as the code counts them
abbrev pub row_words : ℕ → ℕ
row_words n = (n - 1) / width + 1

-- what is lent of the rows above, and the rows when v has come back for it
abbrev pub lent : List ℕ → ℕ → List ℕ
lent l n = take (length l - row_words n) (drop (row_words n) l)

abbrev pub returned : List ℕ → ℕ → List ℕ → List ℕ
returned l n v = put_mid (row_words n) (length l - row_words n) l v

module _ {w : List ℕ} {n i : ℕ} (h : i < n) (t : Tree w n) where
  rise : {b c : Bool} {x : ℕ} {v : List ℕ} → width < n → Edit b (old w i) x (i % width) → c ≡ not (eqb x 0) → length v ≡ length (lent (set w (i / width) x) n)
      → Changed c (lent (set w (i / width) x) n) v (row_words n) (i / width) → Changed b w (returned (set w (i / width) x) n v) n i
  rise {b} {c} {x} {v} l e f size d =
      let u : List ℕ = set w (i / width) x in
      let r = (row_of t).fits in
      let k : words n ≤ length u = simp length-set (omega arith) in
      let size' = rw (above_count n l) at size in
      let d' = rw (above_count n l, f, behind (words n) u, ← (back_behind (words n) u v k size')) at d in
      rw (above_count n l) (changed_above h l t e (back_long (words n) u v k size' ∙ length-set w (i / width) x) (back_before (words n) u v k size') d')

  full : not (eqb (filled w i) 0) ≡ true
  full = set_some (old w i) (i % width) (omega arith)

  pub put_here : (leb n width || ltb 0 (old w i)) ≡ true → Changed true w (set w (i / width) (filled w i)) n i
  put_here e = changed_here h t (set_edit (old w i) (i % width) (omega arith)) (go (stops n (old w i) e))
    where
      go : (n ≤ width) ⊎ (0 < old w i) → (n ≤ width) ⊎ (not (eqb (old w i) 0) ≡ not (eqb (filled w i) 0))
      go (inl q) = inl q
      go (inr q) = inr (some (old w i) q ∙ sym full)

  pub put_above : {v : List ℕ} → (leb n width || ltb 0 (old w i)) ≡ false → length v ≡ length (lent (set w (i / width) (filled w i)) n)
      → Changed true (lent (set w (i / width) (filled w i)) n) v (row_words n) (i / width) → Changed true w (returned (set w (i / width) (filled w i)) n v) n i
  put_above e size c = rise (climbs n (old w i) e).0 (set_edit (old w i) (i % width) (omega arith)) (sym full) size c

  pub remove_here : (leb n width || ltb 0 (cut w i)) ≡ true → Changed false w (set w (i / width) (cut w i)) n i
  remove_here e = changed_here h t (cut_edit (old w i) (i % width) (omega arith)) (go (stops n (cut w i) e))
    where
      was : 0 < cut w i → 0 < old w i
      was q =
          elim (ℕ_discrete (old w i) 0) [
            | no z ↦ omega arith
            | yes z ↦ let y = rw (z, cut_none (i % width)) at q in absurd (omega arith)
          ]

      go : (n ≤ width) ⊎ (0 < cut w i) → (n ≤ width) ⊎ (not (eqb (old w i) 0) ≡ not (eqb (cut w i) 0))
      go (inl q) = inl q
      go (inr q) = inr (some (old w i) (was q) ∙ sym (some (cut w i) q))

  pub remove_above : {v : List ℕ} → (leb n width || ltb 0 (cut w i)) ≡ false → length v ≡ length (lent (set w (i / width) (cut w i)) n)
      → Changed false (lent (set w (i / width) (cut w i)) n) v (row_words n) (i / width) → Changed false w (returned (set w (i / width) (cut w i)) n v) n i
  remove_above e size c =
      let z = climbs n (cut w i) e in
      rise z.0 (cut_edit (old w i) (i % width) (omega arith)) (sym (tells {a = cut w i} {b = 0} z.1)) size c

  -- what the change above asks
  abbrev Asked : ℕ → Type 0
  Asked x = (row_words n < n) × ((i / width < row_words n) × Tree (lent (set w (i / width) x) n) (row_words n))

  asks : (x : ℕ) → width < n → Asked x
  asks x l = (omega arith, (omega arith, rw (behind (row_words n) (set w (i / width) x), above_count n l) (above_edited w n i x h l t)))

  pub put_asks : (leb n width || ltb 0 (old w i)) ≡ false → Asked (filled w i)
  put_asks e = asks (filled w i) (climbs n (old w i) e).0

  pub remove_asks : (leb n width || ltb 0 (cut w i)) ≡ false → Asked (cut w i)
  remove_asks e = asks (cut w i) (climbs n (cut w i) e).0

  -- the word of id i is there
  pub in_room : i / width < length w
  in_room = let f = (row_of t).fits in omega arith
