-- Laws of what is written into a section: word by word, and that it says what the whole list is.
-- Assumes nothing.
use Prim.Native.Nat.{ℕ, ◌+◌, ◌-◌, ◌<◌, ◌≤◌}
use mathlib.Core.Path.{◌≡◌, refl, sym, ◌∙◌, ap}
use mathlib.Core.List.{List, ◌++◌, append_assoc}
use native.Mathlib.Omega.{arith}
use native.Mathlib.Decide.{dec_lt}
use native.Mathlib.Numerals.{add-one}
use lib.ListN.{length, take, drop, get_or, set, length-set, length-take, length-drop, take-append-drop}
use borrow.Rule.Slice.PartMut.{put_mid}
use Rattle.std.proofs.lemmas.Slice.{between-put_mid, take-put_mid_below, drop-put_mid}
use lib.Seq.{paste, ext_get_or, drop-drop, get_or-take, get_or-drop, get_or-set_other, take-suc, take_all}
use Rattle.room.specs.Sections.{span, Out, Puts}
use Rattle.room.proofs.Spans.{span_at, span_empty, span_set}

-- what stands at place p of a list, by its place in a section
pub section_place : (w : List ℕ) (a e p : ℕ) → a ≤ p → p < e → get_or (span w a e) (p - a) 0 ≡ get_or w p 0
section_place w a e p h k = let z : a + (p - a) ≡ p = omega arith in span_at w a e (p - a) (omega arith) ∙ ap (λ (i : ℕ). get_or w i 0) z

-- sections that hold the same hold the same at each place
pub section_at : (a b : List ℕ) (at n p : ℕ) → span a at (at + n) ≡ span b at (at + n) → at ≤ p → p < at + n → get_or a p 0 ≡ get_or b p 0
section_at a b at n p e h k =
    sym (section_place a at (at + n) p h k) ∙ (ap (λ (m : List ℕ). get_or m (p - at) 0) e ∙ section_place b at (at + n) p h k)

-- of two lists of one length that hold the same in a section, and elsewhere what a third does, each is the other
pub puts_same : (l w a b : List ℕ) (to n : ℕ) → length a ≡ length b → Puts l w a to n → Puts l w b to n → a ≡ b
puts_same l w a b to n h x y = ext_get_or 0 a b h (λ p k. go p (dec_lt p to) (dec_lt p (to + n)))
  where
    go : (p : ℕ) → Dec (p < to) → Dec (p < to + n) → get_or a p 0 ≡ get_or b p 0
    go p (yes u) v = x.rest p (λ z. omega arith) ∙ sym (y.rest p (λ z. omega arith))
    go p (no u) (no v) = x.rest p (λ z. omega arith) ∙ sym (y.rest p (λ z. omega arith))
    go p (no u) (yes v) = section_at a b to n p (x.put ∙ sym y.put) (omega arith) v

-- what is written into the whole is the whole
pub puts_whole : (l w w' : List ℕ) → length w' ≡ length w → Puts l w w' 0 (length w) → w' ≡ l
unfolding span
puts_whole l w w' h x = sym (take_all (0 + length w - 0) w' (omega arith)) ∙ x.put

-- the k words from `to` on are replaced by as many words
pub puts_mid : (l w : List ℕ) (to n k : ℕ) → k ≡ n → length l ≡ n → to + n ≤ length w → Puts l w (put_mid to k w l) to n
unfolding span
puts_mid l w to n k q p h = rw q (record { put = between-put_mid to n w l (to + n) (omega arith) (omega arith); rest = λ i o. elsewhere i o (dec_lt i to) })
  where
    w' : List ℕ
    w' = put_mid to n w l

    elsewhere : (i : ℕ) → Out i to n → Dec (i < to) → get_or w' i 0 ≡ get_or w i 0
    elsewhere i o (yes u) = sym (get_or-take to w' i 0 u) ∙ (ap (λ (v : List ℕ). get_or v i 0) (take-put_mid_below to n w l to (omega arith) (omega arith)) ∙ get_or-take to w i 0 u)
    elsewhere i o (no u) =
        let e : to + n + (i - (to + n)) ≡ i = omega arith in
        rw (← e) (sym (get_or-drop (to + n) w' (i - (to + n)) 0) ∙ (ap (λ (v : List ℕ). get_or v (i - (to + n)) 0) (drop-put_mid to n w l (to + n) (omega arith) (omega arith) p) ∙ get_or-drop (to + n) w (i - (to + n)) 0))

-- the words from `to` on are replaced by the first k of s
pub puts_paste : (s w w' : List ℕ) (to n k : ℕ) → w' ≡ paste w to s k → k ≡ n → n ≤ length s → to + n ≤ length w → Puts (take k s) w w' to n
puts_paste s w w' to n k e q g h = rw (e, append_assoc, ← (drop-drop k to w)) (puts_mid (take k s) w to n k q (omega (arith, length-take k s)) h)

-- the first i of the n words of l are written into w₀ from `to` on
pub record Putting (l w₀ w : List ℕ) (to n i : ℕ) : Type 0 where
  pub whole : length l ≡ n
  pub fits : to + n ≤ length w₀
  pub within : i ≤ n
  pub long : length w ≡ length w₀
  pub put : span w to (to + i) ≡ take i l
  pub rest : (p : ℕ) → Out p to i → get_or w p 0 ≡ get_or w₀ p 0

pub putting_start : {l w : List ℕ} {to n : ℕ} → length l ≡ n → to + n ≤ length w → Putting l w w to n 0
putting_start {l} {w} {to} e h = record { whole = e; fits = h; within = omega arith; long = refl; put = span_empty w to (to + 0) (omega arith); rest = λ p o. refl }

module _ {l w₀ w : List ℕ} {to n i : ℕ} (r : Putting l w₀ w to n i) where
  pub putting_step : (v : ℕ) → i < n → v ≡ get_or l i 0 → Putting l w₀ (set w (to + i) v) to n (i + 1)
  putting_step v h e =
      let k = r.whole in
      let z : to + (i + 1) ≡ to + i + 1 = omega arith in
      record {
        whole = r.whole;
        fits = r.fits;
        within = omega arith;
        long = length-set w (to + i) v ∙ r.long;
        put = rw (z, span_set w to (to + i) v (omega arith) (omega (arith, r.long, r.fits)), r.put, e, add-one, take-suc l i 0 (omega arith));
        rest = λ p o. get_or-set_other w (to + i) p v 0 (λ y. omega (arith, o (omega arith))) ∙ r.rest p (λ y. omega (arith, o y));
      }

  pub putting_end : n ≤ i → Puts l w₀ w to n
  putting_end h =
      let z : n ≡ i = omega (arith, r.within) in
      rw z (record { put = r.put ∙ take_all i l (omega (arith, r.whole)); rest = r.rest })

-- a list is written from the beginning on
module _ {l w₀ w : List ℕ} {n i : ℕ} (r : Putting l w₀ w 0 n i) where
  pub front_step : (v : ℕ) → i < n → v ≡ get_or l i 0 → Putting l w₀ (set w i v) 0 n (i + 1)
  front_step v h e = let z : 0 + i ≡ i = omega arith in rw z at (putting_step r v h e)

  behind : n ≤ i → drop n w ≡ drop n w₀
  behind h =
      ext_get_or 0 (drop n w) (drop n w₀) (simp length-drop (omega (arith, r.long))) (λ p b. get_or-drop n w p 0 ∙ (r.rest (n + p) (λ y. omega (arith, r.within)) ∙ sym (get_or-drop n w₀ p 0)))

  pub front_end : n ≤ i → w ≡ l ++ drop n w₀
  unfolding span
  front_end h =
      let e : 0 + n - 0 ≡ n = omega arith in
      let f : take n w ≡ l = rw e at (putting_end r h).put in
      sym (take-append-drop n w) ∙ rw (f, behind h) refl

  -- what is written into the whole is the whole
  pub front_whole : n ≤ i → length w₀ ≡ n → w ≡ l
  front_whole h e = puts_whole l w₀ w r.long (rw e (putting_end r h))
