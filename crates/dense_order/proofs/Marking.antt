-- Laws of marks: what one more id in the order changes, the loop that marks the places, and the search for an id without one.
-- Assumes nothing.
use Prim.Native.Nat.{ℕ, zero, suc, ◌+◌, ◌-◌, ◌*◌, ◌<◌, ◌≤◌}
use mathlib.Core.Path.{◌≡◌, refl, sym, ◌∙◌, ap, subst}
use mathlib.Core.Bool.{Bool, true, false}
use mathlib.Core.List.{List, [], ◌∷◌, ◌++◌, Memᴰ}
use mathlib.Core.Logic.{◌≢◌}
use Rattle.std.specs.Prelude.{Some}
use native.Mathlib.Decide.{ℕ_discrete, dec_lt}
use native.Mathlib.Omega.{arith}
use native.Mathlib.Numerals.{add-one}
use lib.Dec.{eqb}
use borrow.Author.Tests.{eq-eqb, ne_eqb}
use lib.ListN.{length, take, drop, get_or, set, length-set, length-append, get_or-append}
use lib.Seq.{drop-cons, take_all, take-suc, take-append-le, length-take-le, get_or-set_same, get_or-set_other}
use Rattle.std.proofs.lemmas.List.{get_or-append-add, take-append-drop}
use Rattle.record.specs.Lists.{run}
use Rattle.forest.specs.Lists.{here_or, lowest}
use Rattle.claims.specs.Distinct.{Distinct, fresh}
use Rattle.claims.specs.Searches.{get_d_mem}
use Rattle.room.specs.Sections.{span}
use Rattle.room.proofs.Spans.{span_at, span_length}
use Rattle.dense_order.specs.Marks.{mark_of, Unmarked, Marked}

-- ONE MORE ID -------------------------------------------------------------------------------------

module _ (t : ℕ → Bool) where
  lowest_past : (l : List ℕ) (x : ℕ) → t x ≡ false → lowest t (l ++ x ∷ []) ≡ lowest t l
  unfolding lowest here_or
  lowest_past [] x e = rw e
  lowest_past (y ∷ l) x e = rw (lowest_past l x e)

  lowest_end : (l : List ℕ) (x : ℕ) → ((y : ℕ) → Memᴰ y l → t y ≡ false) → t x ≡ true → lowest t (l ++ x ∷ []) ≡ Some (length l)
  unfolding lowest here_or
  lowest_end [] x h e = rw e
  lowest_end (y ∷ l) x h e = rw (h y (mathlib.Core.List.Memᴰ.head refl), lowest_end l x (λ z m. h z (mathlib.Core.List.Memᴰ.tail m)) e)

pub mark_none : (p : ℕ) → mark_of [] p ≡ 0
unfolding mark_of lowest
mark_none p = refl

pub mark_new : (l : List ℕ) (x : ℕ) → ¬ Memᴰ x l → mark_of (l ++ x ∷ []) x ≡ suc (length l)
unfolding mark_of
mark_new l x f = rw (lowest_end (eqb x) l x (λ y m. ne_eqb x y (λ e. f (rw e m))) (eq-eqb x x refl), mark_of)

pub mark_other : (l : List ℕ) (x p : ℕ) → p ≢ x → mark_of (l ++ x ∷ []) p ≡ mark_of l p
unfolding mark_of
mark_other l x p f = rw (lowest_past (eqb p) l x (ne_eqb p x f), mark_of)

distinct_front : (a : List ℕ) (x : ℕ) (b : List ℕ) → Distinct (a ++ x ∷ b) → ¬ Memᴰ x a
distinct_front [] x b d m = mathlib.Core.List.Memᴰ.not-nil m
distinct_front (y ∷ a) x b (fresh f d) (mathlib.Core.List.Memᴰ.head e) = f (mathlib.Core.List.Memᴰ.append_right a (mathlib.Core.List.Memᴰ.head (sym e)))
distinct_front (y ∷ a) x b (fresh f d) (mathlib.Core.List.Memᴰ.tail m) = distinct_front a x b d m

-- each of the first e words stands in their section
pub span_mem : (w : List ℕ) (e k : ℕ) → k < e → e ≤ length w → Memᴰ (get_or w k 0) (span w 0 e)
span_mem w e k h l =
    let z : 0 + k ≡ k = omega arith in
    let s : get_or (span w 0 e) k 0 ≡ get_or w k 0 = span_at w 0 e k (omega arith) ∙ ap (λ (i : ℕ). get_or w i 0) z in
    let q : k < length (span w 0 e) = omega (arith, span_length w 0 e l) in
    rw s at (get_d_mem (span w 0 e) k 0 q)

-- THE LOOP ----------------------------------------------------------------------------------------

-- the ids can be marked: they are different and below n, and the first n of the words m₀ are 0
pub record Markable (ids m₀ : List ℕ) (n : ℕ) : Type 0 where
  pub apart : Distinct ids
  pub below : (x : ℕ) → Memᴰ x ids → x < n
  pub fits : n ≤ length m₀
  pub clear : (p : ℕ) → p < n → get_or m₀ p 0 ≡ 0

-- the first k of the ids are marked in m, which is else as m₀ was
pub record Marking (ids m₀ m : List ℕ) (n k : ℕ) : Type 0 where
  pub within : k ≤ length ids
  pub long : length m ≡ length m₀
  pub marks : (p : ℕ) → p < n → get_or m p 0 ≡ mark_of (take k ids) p
  pub rest : (y : ℕ) → n ≤ y → get_or m y 0 ≡ get_or m₀ y 0

module _ {ids m₀ : List ℕ} {n : ℕ} (a : Markable ids m₀ n) where
  pub marking_start : Marking ids m₀ m₀ n 0
  marking_start = record { within = omega arith; long = refl; marks = λ p h. a.clear p h ∙ sym (mark_none p); rest = λ y h. refl }

  -- the id that is looked at
  module _ {k : ℕ} (h : k < length ids) where
    pub marking_below : get_or ids k 0 < n
    marking_below = a.below (get_or ids k 0) (get_d_mem ids k 0 h)

    longer : take (k + 1) ids ≡ take k ids ++ get_or ids k 0 ∷ []
    longer = rw (add-one, take-suc ids k 0 h)

    new : ¬ Memᴰ (get_or ids k 0) (take k ids)
    new =
        let e : ids ≡ take k ids ++ get_or ids k 0 ∷ drop (suc k) ids = sym (take-append-drop k ids) ∙ ap (λ (l : List ℕ). take k ids ++ l) (drop-cons ids k 0 h) in
        distinct_front (take k ids) (get_or ids k 0) (drop (suc k) ids) (rw (← e) a.apart)

    pub marking_step : {m : List ℕ} → Marking ids m₀ m n k → Marking ids m₀ (set m (get_or ids k 0) (k + 1)) n (k + 1)
    marking_step {m} r =
        let x : ℕ = get_or ids k 0 in
        let b : x < n = marking_below in
        let f = a.fits in
        let l = r.long in
        record {
          within = omega arith;
          long = simp length-set l;
          marks =
              λ p q.
              rw longer
              (elim (ℕ_discrete p x) [
                | yes e ↦ rw e (get_or-set_same m x (k + 1) 0 (omega arith) ∙ sym (mark_new (take k ids) x new ∙ ap suc (length-take-le k ids (omega arith)) ∙ sym (add-one k)))
                | no e ↦ get_or-set_other m x p (k + 1) 0 e ∙ (r.marks p q ∙ sym (mark_other (take k ids) x p e))
              ]);
          rest = λ y u. get_or-set_other m x y (k + 1) 0 (λ z. omega arith) ∙ r.rest y u;
        }

-- the order f and the words b behind it are the room
module _ {w : List ℕ} (f b : List ℕ) {n filled : ℕ} (u : Unmarked w n filled) (e : w ≡ f ++ b) (l : length f ≡ n) where
  order_is : span w 0 filled ≡ take filled f
  unfolding span
  order_is = let z : filled - 0 ≡ filled = omega arith in let i = u.within in rw (z, e) (take-append-le filled f b (omega arith))

  behind : (c : List ℕ) (p : ℕ) → get_or (f ++ c) (n + p) 0 ≡ get_or c p 0
  behind c p = rw (← l) (get_or-append-add f c p 0)

  pub markable : Markable (take filled f) b n
  markable = record {
    apart = rw (← order_is) u.apart;
    below = rw (← order_is) u.below;
    fits = let z : length w ≡ length f + length b = rw e (length-append f b) in let y = u.fits in omega arith;
    clear = λ p h. sym (behind b p) ∙ rw (← e) (u.clear p h);
  }

  pub marking_end : {m : List ℕ} {k : ℕ} → Marking (take filled f) b m n k → length (take filled f) ≤ k → Marked w (f ++ m) n filled
  marking_end {m} {k} r h = record {
    marks = λ p q. behind m p ∙ (r.marks p q ∙ rw (order_is, take_all k (take filled f) h));
    rest = λ y o. rw e (elim (dec_lt y n) [ yes h ↦ before y h | no h ↦ past y (omega arith) (o (omega arith)) ]);
  }
    where
      before : (y : ℕ) → y < n → get_or (f ++ m) y 0 ≡ get_or (f ++ b) y 0
      before y h = get_or-append f m 0 y (omega arith) ∙ sym (get_or-append f b 0 y (omega arith))

      past : (y : ℕ) → n ≤ y → n + n ≤ y → get_or (f ++ m) y 0 ≡ get_or (f ++ b) y 0
      past y h i =
          let z : n + (y - n) ≡ y = omega arith in
          ap (λ (j : ℕ). get_or (f ++ m) j 0) (sym z) ∙ (behind m (y - n) ∙ (r.rest (y - n) (omega arith) ∙ (sym (behind b (y - n)) ∙ ap (λ (j : ℕ). get_or (f ++ b) j 0) z)))

-- AMONG THE MARKS ----------------------------------------------------------------------------------

module _ (t : ℕ → Bool) (w : List ℕ) (a : ℕ) where
  -- what is found among the n words from a + b on
  words_lowest : (b n : ℕ) → a + b + n ≤ length w → lowest t (take n (drop (a + b) w)) ≡ lowest (λ p. t (get_or w (a + p) 0)) (run b n)
  unfolding lowest run
  words_lowest b zero h = refl
  words_lowest b (suc n) h =
      let e : suc (a + b) ≡ a + suc b = omega arith in
      rw (drop-cons w (a + b) 0 (omega arith), e, words_lowest (suc b) n (omega arith))

-- what is found among the marks
pub marks_lowest : (t : ℕ → Bool) (w : List ℕ) (n : ℕ) → 2 * n ≤ length w → lowest t (take (2 * n - n) (drop n w)) ≡ lowest (λ p. t (get_or w (n + p) 0)) (run 0 n)
marks_lowest t w n h =
    let d : 2 * n - n ≡ n = omega arith in
    let e : n ≡ n + 0 = omega arith in
    rw d (subst (λ (k : ℕ). lowest t (take n (drop k w)) ≡ lowest (λ p. t (get_or w (n + p) 0)) (run 0 n)) (sym e) (words_lowest t w n 0 n (omega arith)))
