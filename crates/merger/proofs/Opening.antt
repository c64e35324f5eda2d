-- Opening a position.
-- Assumes nothing.
use Prim.Native.Nat.{ℕ, zero, suc, ◌-◌, ◌<◌}
use mathlib.Core.Path.{◌≡◌, refl, sym, ◌∙◌, ap}
use mathlib.Core.Bool.{false}
use mathlib.Core.List.Memᴰ
use mathlib.Core.List.{List, ◌∷◌, Memᴰ}
use mathlib.Core.Logic.{◌⊎◌, inl, inr}
use Rattle.std.specs.Prelude.{None, Result, Ok, Err}
use native.Mathlib.Omega.{arith}
use native.Mathlib.Decide.{ℕ_discrete}
use lib.ListN.{length, get_or, set, length-set}
use lib.Seq.{get_or-set_same, get_or-set_other}
use Rattle.record.specs.declared.Node.{Node}
use Rattle.record.proofs.Basics.{clash}
use Rattle.forest.specs.Lists.{has}
use Rattle.forest.specs.Walk.{State, going, cycle, deep, id_in, finished, opened, unseen, marked, mark, enter, visit}
use Rattle.claims.specs.Searches.{not_in}
use Rattle.claims.specs.Sound.{Finished, in_id_in}
use Rattle.merger.specs.Walking.{word, Holds, Stands, under, come_of, told_by, Comes}
use Rattle.merger.proofs.Holding.{word_unseen, word_open, word_finished, has_other, has_self, word_one}

module _ {s b f v u : List ℕ} {m : ℕ} {g : List Node} {path : List ℕ} {t : State} (q : Stands s b f v u m g path t) (p : ℕ) (low : p < length b) where
  within : p < length v
  within = let r = q.holds.long in omega arith

  -- the word says what p is
  module _ (e : get_or v p 0 ≡ 0) where
    is_unseen : (id_in t.done p ≡ None) × (has p path ≡ false)
    is_unseen = word_unseen (id_in t.done p) (has p path) (sym (q.holds.states p low) ∙ e)

    pub opens_new : ¬ Memᴰ p path
    opens_new = not_in p path is_unseen.1

    pub opens : Stands s b f (set v p 1) u m g (p ∷ path) t
    opens = record {
      charted = q.charted;
      fine = record { sound = q.fine.sound; unfinished = λ x k f. first x f (Memᴰ.cases_cons k); within = q.fine.within; closed = q.fine.closed };
      holds = record {
        long = length-set v p 1 ∙ q.holds.long;
        wide = q.holds.wide;
        states = λ x l. state x l (ℕ_discrete x p);
        sources = q.holds.sources;
      };
      counted = q.counted;
    }
      where
        first : (x : ℕ) → Finished t x → (x ≡ p) ⊎ Memᴰ x path → ⊥
        first x f (inl z) = let (i, y) = in_id_in t.done p (rw z at f) in let u = is_unseen.0 in clash (cc)
        first x f (inr k) = q.fine.unfinished x k f

        state : (x : ℕ) → x < length b → Dec (x ≡ p) → get_or (set v p 1) x 0 ≡ word (id_in t.done x) (has x (p ∷ path))
        state x l (yes z) = rw (z, get_or-set_same v p 1 0 within, is_unseen.0, has_self p path) (sym word_one)
        state x l (no z) = rw (get_or-set_other v p x 1 0 z, has_other x p path z) (q.holds.states x l)

-- WHAT TAKING p ANSWERS ---------------------------------------------------------------------------

module _ (g : List Node) (path : List ℕ) (p : ℕ) (t : State) where
  visit_over : (d : ℕ) → mark path t p ≡ finished → visit g d path p t ≡ going t
  unfolding visit enter
  visit_over zero e = rw e refl
  visit_over (suc d) e = rw e refl

  visit_met : (d : ℕ) → mark path t p ≡ opened → visit g d path p t ≡ cycle p
  unfolding visit enter
  visit_met zero e = rw e refl
  visit_met (suc d) e = rw e refl

  visit_deep : mark path t p ≡ unseen → visit g 0 path p t ≡ deep p
  unfolding visit enter
  visit_deep e = rw e refl

  visit_opens : (d : ℕ) → mark path t p ≡ unseen → visit g (suc d) path p t ≡ under g d path p t
  unfolding visit enter under
  visit_opens d e = rw e refl

module _ {s b f v u : List ℕ} {m : ℕ} {g : List Node} {path : List ℕ} {t : State} (q : Stands s b f v u m g path t) (p : ℕ) (low : p < length b) (d : ℕ) where
  unseen_mark : get_or v p 0 ≡ 0 → mark path t p ≡ unseen
  unfolding mark marked
  unseen_mark e = let (x, y) = is_unseen q p low e in rw (x, y) refl

  pub takes_over : 1 < get_or v p 0 → Comes g v u (length b) path (visit g d path p t) (Ok m)
  unfolding mark marked come_of told_by
  takes_over l =
      let (i, x, y) = word_finished (id_in t.done p) (has p path) (rw (q.holds.states p low) at l) in
      let e : visit g d path p t ≡ going t = visit_over g path p t d (rw x refl) in
      rw e (record { answer = ap (λ (k : ℕ). Ok k) q.counted; told = tt; came = λ j z. same j z })
    where
      same : (j : State) → going t ≡ going j → Holds g v u (length b) path j
      same j z = let y : t ≡ j = cc in rw (sym y) q.holds

  pub takes_met : get_or v p 0 ≡ 1 → Comes g v u (length b) path (visit g d path p t) (Err p)
  unfolding mark marked come_of told_by
  takes_met l =
      let (x, y) = word_open (id_in t.done p) (has p path) (sym (q.holds.states p low) ∙ l) in
      rw (visit_met g path p t d (rw (x, y) refl)) (record { answer = refl; told = (low, within q p low, l); came = λ j z. absurd (clash (cc)) })

  pub takes_deep : get_or v p 0 ≡ 0 → d ≡ 0 → Comes g v u (length b) path (visit g d path p t) (Err p)
  unfolding come_of told_by
  takes_deep l z = rw (z, visit_deep g path p t (unseen_mark l)) (record { answer = refl; told = (low, within q p low, l); came = λ j y. absurd (clash (cc)) })

  pub takes_below : {v' u' : List ℕ} {r : Result ℕ ℕ} → get_or v p 0 ≡ 0 → 0 < d → Comes g v' u' (length b) path (under g (d - 1) path p t) r → Comes g v' u' (length b) path (visit g d path p t) r
  takes_below {v'} {u'} {r} l k a =
      let z : d ≡ suc (d - 1) = omega arith in
      let e : visit g d path p t ≡ under g (d - 1) path p t = ap (λ (j : ℕ). visit g j path p t) z ∙ visit_opens g path p t (d - 1) (unseen_mark l) in
      rw e a
