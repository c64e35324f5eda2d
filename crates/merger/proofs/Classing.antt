-- Laws of listing those of a list's elements that pass a test, as the sources of one class.
-- Assumes nothing.
use Prim.Native.Nat.{ℕ, zero, suc, ◌+◌, ◌<◌, ◌≤◌}
use mathlib.Core.Path.{◌≡◌, refl, sym, ◌∙◌, ap}
use mathlib.Core.Bool.{Bool, true, false}
use mathlib.Core.List.{List, [], ◌∷◌, ◌++◌, append-nil}
use native.Mathlib.Omega.{arith}
use native.Mathlib.Numerals.{add-one}
use lib.ListN.{length, take, drop, get_or, set, length-append}
use lib.Seq.{take_all, take-suc, drop-cons, set_at, append_snoc}
use Rattle.std.proofs.lemmas.List.{take-append-drop}
use Rattle.record.specs.Node.{class_of, rank}
use Rattle.forest.specs.Lists.{keep}
use Rattle.claims.specs.First.{keep_append}

-- the class of a kind
pub class_low : (k : ℕ) → k < 2 → k ≡ rank (class_of k)
unfolding class_of rank
class_low zero h = refl
class_low (suc zero) h = refl
class_low (suc (suc k)) h = absurd (omega arith)

pub class_high : (k : ℕ) → 2 ≤ k → 2 ≡ rank (class_of k)
unfolding class_of rank
class_high zero h = absurd (omega arith)
class_high (suc zero) h = absurd (omega arith)
class_high (suc (suc k)) h = refl

-- of the first k elements those that pass are listed
pub record Classing (t : ℕ → Bool) (l o₀ o : List ℕ) (count k : ℕ) : Type 0 where
  pub counted : count ≡ length (keep t (take k l))
  pub put : o ≡ keep t (take k l) ++ drop count o₀

pub classing_start : (t : ℕ → Bool) (l o : List ℕ) → Classing t l o o 0 0
unfolding keep
classing_start t l o = record { counted = refl; put = refl }

module _ {t : ℕ → Bool} {l o₀ o : List ℕ} {count k : ℕ} (r : Classing t l o₀ o count k) (h : k < length l) where
  next : keep t (take (k + 1) l) ≡ keep t (take k l) ++ keep t (get_or l k 0 ∷ [])
  next = rw (add-one, take-suc l k 0 h, keep_append t (take k l) (get_or l k 0 ∷ []))

  pub classing_past : t (get_or l k 0) ≡ false → Classing t l o₀ o count (k + 1)
  unfolding keep
  classing_past e = record { counted = r.counted ∙ sym (ap length same); put = r.put ∙ ap (λ (a : List ℕ). a ++ drop count o₀) (sym same) }
    where
      same : keep t (take (k + 1) l) ≡ keep t (take k l)
      same = next ∙ rw (e, keep) (append-nil (keep t (take k l)))

  module _ (room : length (keep t l) ≤ length o₀) (e : t (get_or l k 0) ≡ true) where
    listed : keep t (take (k + 1) l) ≡ keep t (take k l) ++ get_or l k 0 ∷ []
    unfolding keep
    listed = next ∙ rw (e, keep) refl

    longer : length (keep t (take (k + 1) l)) ≡ count + 1
    longer = ap length listed ∙ (length-append (keep t (take k l)) (get_or l k 0 ∷ []) ∙ let z = r.counted in omega arith)

    -- there is room for one more
    pub classing_room : count < length o₀
    classing_room =
        let p = ap length (ap (keep t) (sym (take-append-drop (k + 1) l)) ∙ keep_append t (take (k + 1) l) (drop (k + 1) l)) in
        let q = length-append (keep t (take (k + 1) l)) (keep t (drop (k + 1) l)) in
        let z = longer in
        omega arith

    pub classing_on : Classing t l o₀ (set o count (get_or l k 0)) (count + 1) (k + 1)
    classing_on =
        let y = classing_room in
        record {
          counted = sym longer;
          put =
              rw (
                r.put,
                drop-cons o₀ count 0 y,
                set_at (keep t (take k l)) (get_or o₀ count 0) (drop (suc count) o₀) (get_or l k 0) count (sym r.counted),
                listed,
                add-one,
                append_snoc (keep t (take k l)) (get_or l k 0) (drop (suc count) o₀),
              );
        }

pub classing_end : {t : ℕ → Bool} {l o₀ o : List ℕ} {r k : ℕ} → Classing t l o₀ o r k → length l ≤ k → record { count : r ≡ length (keep t l); listed : o ≡ keep t l ++ drop r o₀ }
classing_end {l = l} {k = k} a h = let e = take_all k l h in record { count = rw e at a.counted; listed = rw e at a.put }
