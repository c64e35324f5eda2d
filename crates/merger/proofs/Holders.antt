-- Laws of listing the non-externals and of sorting them by digest.
-- Assumes nothing.
use Prim.Native.Nat.{ℕ, ◌+◌, ◌-◌, ◌<◌, ◌≤◌}
use mathlib.Core.Path.{◌≡◌, sym, ◌∙◌, ap}
use mathlib.Core.Bool.{Bool, true, not}
use mathlib.Core.List.{List, ◌++◌}
use native.Mathlib.Omega.{arith}
use native.Mathlib.Decide.{dec_lt}
use denote.Enum.Bare.{sameb}
use Rattle.std.proofs.lemmas.List.{get_or_append_left, get_or-append_right}
use lib.Dec.{eqb}
use lib.ListN.{length, take, drop, get_or, set, get_or-replicate, replicate, length-take, length-replicate}
use lib.Seq.{get_or-drop, take_at}
use Rattle.record.specs.Lists.{run}
use Rattle.record.specs.Node.{node_at, class_of, rank, is_external}
use Rattle.record.specs.contracts.Class.{the_type}
use Rattle.record.specs.declared.Class.{Class}
use Rattle.record.specs.declared.Class.TheVariants.{External}
use Rattle.record.specs.declared.Node.{Node}
use Rattle.record.proofs.Classes.{class_eq, class_read}
use Rattle.record.proofs.Lengths.{length_run}
use Rattle.forest.specs.Lists.{sort}
use Rattle.room.specs.Sections.{span}
use Rattle.sorting.specs.Promises.{Listed, Spared}
use Rattle.sorting.specs.Digests.{less}
use Rattle.sorting.proofs.Callers.{shelf_sorted, last_sorted}
use Rattle.sorting.proofs.Keeping.{Keeping, keeping_count, keeping_end, numbers_on}
use Rattle.sorting.proofs.Uses.{kept_listed, replacement_is}
use Rattle.merger.specs.Walking.{Ample, others, Lists, Shelved}

-- whether a node is an external, by the class that is read of its kind
pub said_external : (x : Node) {k : ℕ} {c : Class} {r : Bool} → k ≡ x.kind → c ≡ class_of k → r ≡ sameb the_type c External → r ≡ is_external x
unfolding is_external
said_external x {k} {c} e f q = q ∙ (class_eq c External ∙ ap (λ (z : Class). eqb (rank z) (rank External)) (class_read x e f))

-- the next position is listed
pub listed_on : {t : ℕ → Bool} {l₀ l : List ℕ} {n count p : ℕ} → Keeping t (run 0 n) l₀ l 0 count p → p < n → n ≤ length l₀ → t p ≡ true → Keeping t (run 0 n) l₀ (set l count p) 0 (count + 1) (p + 1)
listed_on {count = count} m h fits e = let z : 0 + count ≡ count = omega arith in rw z at (numbers_on m h (omega arith) e)

-- all are looked at
pub listed_all : {s l₀ l : List ℕ} {count p : ℕ} → Ample s l₀ → Keeping (λ q. not (is_external (node_at s q))) (run 0 (length l₀)) l₀ l 0 count p → length l₀ ≤ p → Lists s l₀ l count
unfolding others
listed_all {l₀ = l₀} a m h =
    let k = length_run 0 (length l₀) in
    record {
      count = rw (← a.counted) (keeping_count m (omega arith) (omega arith));
      few = omega (arith, m.some, m.within);
      puts = rw (← a.counted) (keeping_end m (omega arith) (omega arith));
    }

module _ {s l₀ l : List ℕ} {r : ℕ} (a : Ample s l₀) (long : length l ≡ length l₀) (k : Lists s l₀ l r) where
  others_listed : Listed s (others s)
  unfolding others
  others_listed = kept_listed s (λ p. not (is_external (node_at s p)))

  front : take r l ≡ others s
  unfolding span
  front = let z : r ≡ 0 + r - 0 = omega arith in rw z k.puts.put

  module _ (z : List ℕ) (spare : length l₀ ≤ length z) where
    -- they can be sorted
    pub sortable : Spared s (take r l) (take r z)
    sortable =
        let y = k.few in
        record { listed = rw front others_listed; as_long = simp length-take (omega arith) }

    -- and then searched
    pub shelved : {x c : List ℕ} → x ≡ sort (less s) (take r l) → c ≡ replicate (length (take r z)) 0 → length x ≡ length (take r l) → Shelved s l₀ (x ++ drop r l) z (c ++ drop r z) r
    unfolding others
    shelved {x} {c} p q g =
        let y = k.few in
        let i : length (take r z) ≡ r = simp length-take (omega arith) in
        let o : length (take r l) ≡ r = simp length-take (omega arith) in
        let n : length x ≡ r = g ∙ o in
        let e : x ≡ sort (less s) (others s) = p ∙ ap (sort (less s)) front in
        record {
          held = rw (take_at x (drop r l) r n, e) (record { shelf = shelf_sorted s (others s) others_listed; last = λ d. last_sorted s d (others s) ∙ sym (replacement_is s d) });
          few = k.few;
          zeros = λ b j. rw (q, i) (zero b j (dec_lt j r));
        }
      where
        zero : ((j : ℕ) → get_or z j 0 ≡ 0) → (j : ℕ) → Dec (j < r) → get_or (replicate r 0 ++ drop r z) j 0 ≡ 0
        zero b j (yes i) = let n : length (replicate {A = ℕ} r 0) ≡ r = length-replicate r 0 in get_or_append_left (replicate r 0) (drop r z) 0 j (omega arith) ∙ get_or-replicate r j 0 0 i
        zero b j (no i) = get_or-append_right (replicate r 0) (drop r z) r j 0 (length-replicate r 0) (omega arith) ∙ (get_or-drop r z (j - r) 0 ∙ b (r + (j - r)))
