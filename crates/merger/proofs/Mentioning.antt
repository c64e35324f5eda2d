-- Laws of listing the new ids of the roots, first mention kept, repeats dropped.
-- Assumes nothing.
use Prim.Native.Nat.{ℕ, ◌+◌, ◌<◌, ◌≤◌}
use mathlib.Core.Path.{◌≡◌, refl, sym, ◌∙◌, ap}
use mathlib.Core.Bool.{false}
use mathlib.Core.List.Memᴰ
use mathlib.Core.List.{List, [], ◌∷◌, ◌++◌, map, append-nil, append_assoc, Memᴰ}
use mathlib.Core.Logic.{◌⊎◌, inl, inr, ◌≢◌}
use native.Mathlib.Decide.{ℕ_discrete}
use native.Mathlib.Numerals.{add-one}
use native.Mathlib.Omega.{arith}
use borrow.Author.Tests.{eq-eqb, ne_eqb}
use lib.ListN.{length, take, drop, get_or, set, length-set, length-append, drop_of_length-le}
use lib.Seq.{drop-cons, get_or-set_same, get_or-set_other}
use Rattle.std.proofs.lemmas.List.{length-take-le, take_more_set}
use Rattle.forest.specs.Lists.{has, firsts}
use Rattle.claims.specs.Distinct.{Distinct, empty, distinct_snoc, pigeonhole}
use Rattle.claims.specs.Searches.{not_in, get_d_mem}
use Rattle.merger.specs.Rooms.{id_on, Ends, Rooted, mentioned, Mentions}
use Rattle.merger.specs.Table.{ToRoot, AtRoot, starts}
use Rattle.merger.specs.declared.table.Cursor.{Cursor}
use Rattle.merger.proofs.Firsts.{firsts_same, has_snoc, bit, bit_true, bit_false}
use Rattle.merger.proofs.Cursors.{toward_start, toward_next, root_position, starts_long}

-- the new ids of the first k roots are listed: b says which ids, o has them
pub record Mentioning (t rs w b o : List ℕ) (n : ℕ) (c : Cursor) (count k : ℕ) : Type 0 where
  pub toward : ToRoot t c k
  pub marks : length b ≡ n
  pub room : n ≤ length o
  pub some : count ≤ n
  pub distinct : Distinct (take count o)
  pub below : (x : ℕ) → Memᴰ x (take count o) → x < n
  pub listed : (i : ℕ) → i < n → get_or b i 0 ≡ bit (has i (take count o))
  pub so_far : mentioned w (starts t rs) ≡ take count o ++ firsts (take count o) (map (id_on w) (drop k (starts t rs)))

pub mentioning_start : {t rs w b o : List ℕ} → Rooted t rs w b o → (c : Cursor) → c ≡ record { rows = 0; base = 0; nodes = 0; roots = 0 } → Mentioning t rs w b o (length b) c 0 0
unfolding mentioned has
mentioning_start {t} a c e = record {
  toward = rw e (toward_start t);
  marks = refl;
  room = a.room;
  some = omega arith;
  distinct = empty;
  below = λ x m. absurd (Memᴰ.not-nil m);
  listed = λ i h. a.blank i h;
  so_far = refl;
}

module _ {t rs w b₀ o₀ b o : List ℕ} {count k : ℕ} {c₀ : Cursor} (a : Rooted t rs w b₀ o₀) (r : Mentioning t rs w b o (length b₀) c₀ count k) (h : k < length rs) (c : Cursor) (at : AtRoot t c k) where
  abbrev seen : List ℕ
  seen = take count o

  position : get_or (starts t rs) k 0 ≡ c.base + get_or rs k 0
  position = root_position t rs c k at a.long

  -- the root that is looked at is finished
  pub mentioning_ends : Ends w (length b₀) (c.base + get_or rs k 0)
  mentioning_ends = rw (← position) (a.ends (get_or (starts t rs) k 0) (get_d_mem (starts t rs) k 0 (let l = starts_long t rs a.long in omega arith)))

  module _ (id : ℕ) (is : id ≡ id_on w (c.base + get_or rs k 0)) where
    id_low : id < length b₀
    id_low = let x = mentioning_ends.id in omega arith

    next_root : map (id_on w) (drop k (starts t rs)) ≡ id ∷ map (id_on w) (drop (k + 1) (starts t rs))
    next_root =
        let l = starts_long t rs a.long in
        let e : id_on w (get_or (starts t rs) k 0) ≡ id = rw position (sym is) in
        rw (drop-cons (starts t rs) k 0 (omega arith), add-one, e) refl

    pub mentioning_again : get_or b id 0 ≡ 1 → Mentioning t rs w b o (length b₀) c count (k + 1)
    unfolding firsts
    mentioning_again m = record {
      toward = toward_next t c k at;
      marks = r.marks;
      room = r.room;
      some = r.some;
      distinct = r.distinct;
      below = r.below;
      listed = r.listed;
      so_far = r.so_far ∙ rw next_root (ap (λ (l : List ℕ). seen ++ l) dropped);
    }
      where
        dropped : firsts seen (id ∷ map (id_on w) (drop (k + 1) (starts t rs))) ≡ firsts seen (map (id_on w) (drop (k + 1) (starts t rs)))
        dropped = rw (bit_true (has id seen) (sym (r.listed id id_low) ∙ m), firsts) refl

    module _ (m : get_or b id 0 ≢ 1) where
      new : has id seen ≡ false
      new = bit_false (has id seen) (λ e. m (r.listed id id_low ∙ e))

      new_distinct : Distinct (seen ++ id ∷ [])
      new_distinct = distinct_snoc id r.distinct (not_in id seen new)

      new_below : (x : ℕ) → Memᴰ x (seen ++ id ∷ []) → x < length b₀
      new_below x i = go (Memᴰ.append_cases seen i)
        where
          go : Memᴰ x seen ⊎ Memᴰ x (id ∷ []) → x < length b₀
          go (inl k) = r.below x k
          go (inr k) = rw (Memᴰ.eq_of_singleton k) id_low

      -- there is room for one more
      pub mentioning_room : count < length b₀
      mentioning_room =
          let p : length (seen ++ id ∷ []) ≤ length b₀ = pigeonhole (length b₀) new_distinct new_below in
          let q = length-append seen (id ∷ []) in
          let l = length-take-le count o (let x = r.some in let y = r.room in omega arith) in
          omega arith

      after_seen : take (count + 1) (set o count id) ≡ seen ++ id ∷ []
      after_seen = take_more_set o count id (let x = mentioning_room in let y = r.room in omega arith)

      after_listed : (i : ℕ) → i < length b₀ → get_or (set b id 1) i 0 ≡ bit (has i (seen ++ id ∷ []))
      unfolding has
      after_listed i p = rw (has_snoc i id seen) (go (ℕ_discrete i id))
        where
          go : Dec (i ≡ id) → get_or (set b id 1) i 0 ≡ bit (has i (id ∷ seen))
          go (yes q) = rw (q, eq-eqb id id refl) (get_or-set_same b id 1 0 (let x = id_low in let y = r.marks in omega arith))
          go (no q) = rw (ne_eqb i id q) (get_or-set_other b id i 1 0 q ∙ r.listed i p)

      pub mentioning_new : Mentioning t rs w (set b id 1) (set o count id) (length b₀) c (count + 1) (k + 1)
      unfolding firsts
      mentioning_new =
          let e = after_seen in
          record {
            toward = toward_next t c k at;
            marks = length-set b id 1 ∙ r.marks;
            room = let y = r.room in rw (length-set o count id) y;
            some = let x = mentioning_room in omega arith;
            distinct = rw e new_distinct;
            below = λ x i. new_below x (rw e at i);
            listed = λ i p. rw e (after_listed i p);
            so_far = r.so_far ∙ rw (e, next_root) kept;
          }
        where
          left : List ℕ
          left = map (id_on w) (drop (k + 1) (starts t rs))

          kept : seen ++ firsts seen (id ∷ left) ≡ (seen ++ id ∷ []) ++ firsts (seen ++ id ∷ []) left
          kept = rw (new, firsts, append_assoc, firsts_same (seen ++ id ∷ []) (id ∷ seen) left (λ x. has_snoc x id seen)) refl

pub mentioning_end : {t rs w b₀ o₀ b o : List ℕ} {count k : ℕ} {c : Cursor} → Rooted t rs w b₀ o₀ → Mentioning t rs w b o (length b₀) c count k → length rs ≤ k → Mentions t rs w b o count
unfolding firsts
mentioning_end {t} {rs} {w} {b₀} {o₀} {b} {o} {count} {k} a r h =
    let l = starts_long t rs a.long in
    let y : length (starts t rs) ≤ k = omega arith in
    let z : drop k (starts t rs) ≡ [] = drop_of_length-le (starts t rs) y in
    let e : mentioned w (starts t rs) ≡ take count o = r.so_far ∙ rw z (append-nil (take count o)) in
    let g = r.marks in
    let i = r.some in
    let f = r.room in
    record { count = sym (ap length e ∙ length-take-le count o (omega arith)); few = omega arith; put = sym e }
