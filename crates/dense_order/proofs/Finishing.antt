-- Laws of the whole order: externals, then blocks, then what is released, and the place of each id.
-- Assumes nothing.
use Prim.Native.Nat.{ℕ, suc, ◌+◌, ◌*◌, ◌-◌, ◌/◌, ◌<◌, ◌≤◌}
use mathlib.Core.Path.{◌≡◌, refl, sym, ◌∙◌, ap}
use mathlib.Core.Bool.{Bool, true, false, not}
use mathlib.Core.List.{List, ◌++◌, Memᴰ}
use Rattle.std.specs.Prelude.{Option, Some, None}
use native.Mathlib.Omega.{arith}
use native.Mathlib.Decide.{dec_lt}
use Rattle.std.proofs.lemmas.List.{get_or_append_left, get_or-append-add, get_or-drop}
use lib.Dec.{eqb}
use borrow.Author.Tests.{eqb-true, eq-eqb, ne_eqb}
use lib.ListN.{length, take, drop, get_or, get_or-replicate, length-append, length-drop, length-take, length-replicate, replicate}
use Rattle.room.proofs.Spans.{span_length, span_at, span_same, span_join}
use Rattle.record.specs.Lists.{run}
use Rattle.record.specs.Node.{fields, size, rank, class, node_at, nodes_of}
use Rattle.record.specs.declared.Class.TheVariants.{External, Block}
use Rattle.record.specs.declared.Node.{Node}
use Rattle.record.proofs.Basics.{clash}
use Rattle.record.proofs.Nodes.{length_nodes_of}
use Rattle.forest.specs.Lists.{has, lowest, sort}
use Rattle.forest.specs.Order.{ids, externals, blocks, begun as begun_of, order as order_of, unreleased}
use Rattle.forest.specs.Lent.{work_words}
use Rattle.claims.specs.Accepting.{unreleased_all}
use Rattle.claims.specs.Distinct.{pigeonhole}
use Rattle.claims.specs.Places.{lowest_passes}
use Rattle.claims.specs.Releases.{begun_distinct, begun_in, length_order}
use Rattle.claims.specs.Searches.{has_in, in_has, lowest_none, lowest_lt, lowest_agree, get_d_mem}
use Rattle.room.specs.Sections.{span, Out, Puts}
use borrow.Rule.Slice.PartMut.{put_mid}
use Rattle.ready.proofs.Edits.{behind, back_long, back_before, back_behind}
use Rattle.room.proofs.Spans.{span_length, span_at, span_join, span_same}
use Rattle.sorting.specs.Promises.{Spared}
use Rattle.sorting.specs.Digests.{less}
use Rattle.sorting.proofs.Callers.{Both, both_fronts, front_span}
use Rattle.sorting.proofs.Uses.{kept_listed}
use Rattle.dense_order.specs.Kinds.{Ordered, of_class, Space, Members, Blank, Externals}
use Rattle.dense_order.specs.Marks.{mark_of, Unmarked, Marked}
use Rattle.dense_order.specs.State.{heads_at, links_at, Fair, Enlisted, Standing, Released, Fresh}
use Rattle.dense_order.proofs.Opening.{enlisted_start, opens}
use Rattle.dense_order.proofs.Gathering.{externals_class, blocks_class}

-- EXTERNALS ---------------------------------------------------------------------------------------

pub space_blank : {s w : List ℕ} {n : ℕ} → Blank s w n → Space s w
space_blank a = let c = a.counted in record { few = let z = a.few in omega arith; fits = let z = a.room in omega arith }

-- the room w₁ in two parts, of which the first begins with the listed externals
module _ {s w w₁ : List ℕ} {n r : ℕ} (a b : List ℕ) (blank : Blank s w n) (l : length w₁ ≡ length w) (k : Members s w w₁ External r) (e : w₁ ≡ a ++ b) (f : length a ≡ heads_at n) where
  some_listed : r ≤ n
  some_listed = let y = k.few in let x = blank.counted in omega arith

  longer : r ≤ length b
  longer = let z = blank.room in let y = some_listed in let q = ap length e in omega (arith, length-append a b)

  list_is : take r a ≡ span w₁ 0 r
  list_is = let y = some_listed in rw e (front_span a b r (omega arith))

  pub spared_externals : Spared s (take r a) (take r b)
  unfolding of_class
  spared_externals =
      let z : 0 + r ≡ r = omega arith in
      let y = some_listed in
      record {
        listed = rw (list_is, rw z at k.puts.put) (kept_listed s (λ p. eqb (rank (class (node_at s p))) (rank External)));
        as_long = simp length-take (omega (arith, longer));
      }

  pub sorted_externals : {x v : List ℕ} → x ≡ sort (less s) (take r a) → v ≡ replicate (length (take r b)) 0 → length x ≡ length (take r a) → Both (sort (less s) (span w₁ 0 r)) (replicate r 0) w₁ ((x ++ drop r a) ++ (v ++ drop r b)) 0 r (heads_at n) r
  sorted_externals {x} {v} p q g =
      let y = some_listed in
      let u : length (take r b) ≡ r = simp length-take (omega (arith, longer)) in
      let i : length (take r a) ≡ r = simp length-take (omega arith) in
      let m : v ≡ replicate r 0 = q ∙ ap (λ (c : ℕ). replicate c 0) u in
      let o : x ≡ sort (less s) (span w₁ 0 r) = p ∙ ap (sort (less s)) list_is in
      rw (← o, ← m) (both_fronts a b r (heads_at n) e f (g ∙ i) (ap length m ∙ length-replicate r 0) (omega arith) longer)

pub externals_listed : {s w w₁ w₂ : List ℕ} {n r : ℕ} → Blank s w n → Members s w w₁ External r → Both (sort (less s) (span w₁ 0 r)) (replicate r 0) w₁ w₂ 0 r (heads_at n) r → Externals s w₂ n r
externals_listed {s} {w} {w₁} {w₂} {n} {r} a k t = record {
  some = let y = k.few in let x = a.counted in omega arith;
  first = (let z : 0 + r ≡ r = omega arith in let q = t.first in rw z at q) ∙ (ap (sort (less s)) (let z : 0 + r ≡ r = omega arith in let q = k.puts.put in rw z at q) ∙ sym (externals_class s));
  zeros = λ y h. zero_at y h (dec_lt y (heads_at n)) (dec_lt y (heads_at n + r));
}
  where
    old : (y : ℕ) → r ≤ y → Out y (heads_at n) r → get_or w₂ y 0 ≡ 0
    old y h o = t.rest y (λ z. omega arith) o ∙ (k.puts.rest y (λ z. omega arith) ∙ a.zeros y)

    spare : (y : ℕ) → heads_at n ≤ y → y < heads_at n + r → get_or w₂ y 0 ≡ 0
    spare y u v =
        let i : heads_at n + (y - heads_at n) ≡ y = omega arith in
        let e : get_or (span w₂ (heads_at n) (heads_at n + r)) (y - heads_at n) 0 ≡ get_or w₂ (heads_at n + (y - heads_at n)) 0 = span_at w₂ (heads_at n) (heads_at n + r) (y - heads_at n) (omega arith) in
        ap (λ j. get_or w₂ j 0) (sym i) ∙ (sym e ∙ (ap (λ b. get_or b (y - heads_at n) 0) t.second ∙ get_or-replicate r (y - heads_at n) 0 0 (omega arith)))

    zero_at : (y : ℕ) → r ≤ y → Dec (y < heads_at n) → Dec (y < heads_at n + r) → get_or w₂ y 0 ≡ 0
    zero_at y h (yes u) v = old y h (λ z. omega arith)
    zero_at y h (no u) (yes v) = spare y (omega arith) v
    zero_at y h (no u) (no v) = old y h (λ z. omega arith)

-- BLOCKS ------------------------------------------------------------------------------------------

-- what stands behind the externals
pub space_blocks : {s w : List ℕ} {n e : ℕ} → Fair s n → work_words * n ≤ length w → Externals s w n e → Space s (take (length w - e) (drop e w))
space_blocks {s} {w} {n} {e} f r x =
    let c = f.counted in
    record { few = let z = f.few in omega arith; fits = let z = x.some in simp (length-take, length-drop) (omega arith) }

-- externals and blocks are no more than there are nodes
begun_few : (g : List Node) → length (begun_of g) ≤ length g
begun_few g = pigeonhole (length g) (begun_distinct g) (λ x m. (begun_in g x m).1)

fresh_blocks : {s w w₁ : List ℕ} {n e b : ℕ} → Fair s n → work_words * n ≤ length w → Externals s w n e → length w₁ ≡ length w → b ≤ length s / size → Puts (of_class s Block) w w₁ e b → Fresh s w₁ n (e + b)
unfolding begun_of
fresh_blocks {s} {w} {w₁} {n} {e} {b} f r x l g k = record {
  fair = f;
  room = omega arith;
  some = few;
  first = first_is;
  zeros = λ y u v. k.rest y (λ z. let q = few in omega arith) ∙ x.zeros y (let q = x.some in omega arith);
}
  where
    kept : span w₁ 0 e ≡ externals (nodes_of s)
    kept = span_same w₁ w 0 e l (let q = x.some in omega arith) (λ y u v. k.rest y (λ z. omega arith)) ∙ x.first

    fits : e + b ≤ length w₁
    fits = let q = x.some in let y = f.counted in omega arith

    first_is : span w₁ 0 (e + b) ≡ externals (nodes_of s) ++ blocks (nodes_of s)
    first_is = span_join w₁ 0 e (e + b) (omega arith) (omega arith) ∙ rw (kept, k.put, blocks_class s)

    few : e + b ≤ n
    few =
        let z = begun_few (nodes_of s) in
        let y : length (span w₁ 0 (e + b)) ≡ length (externals (nodes_of s) ++ blocks (nodes_of s)) = ap length first_is in
        let v = span_length w₁ 0 (e + b) fits in
        let u = length_nodes_of s in
        let q = f.counted in
        omega arith

-- what is written behind place e is written into the room from there on
puts_behind : (l w v : List ℕ) (e b : ℕ) → e ≤ length w → length v ≡ length (take (length w - e) (drop e w)) → Puts l (take (length w - e) (drop e w)) v 0 b → Puts l w (put_mid e (length w - e) w v) e b
unfolding span
puts_behind l w v e b h long k = record {
  put =
      let z : e + b - e ≡ 0 + b - 0 = omega arith in
      rw (back_behind e w v h long, z) k.put;
  rest = λ p o. elim (dec_lt p e) [ yes q ↦ back_before e w v h long p q | no q ↦ past p q (k.rest (p - e) (λ y. let z = o (omega arith) in omega arith)) ];
}
  where
    past : (p : ℕ) → (p < e → ⊥) → get_or v (p - e) 0 ≡ get_or (take (length w - e) (drop e w)) (p - e) 0 → get_or (put_mid e (length w - e) w v) p 0 ≡ get_or w p 0
    past p q f =
        let z : e + (p - e) ≡ p = omega arith in
        rw (behind e w, ← (back_behind e w v h long), get_or-drop e (put_mid e (length w - e) w v) (p - e) 0, get_or-drop e w (p - e) 0, z) at f

pub begins : {s w v : List ℕ} {n e b : ℕ} → Fair s n → work_words * n ≤ length w → Externals s w n e → length v ≡ length (take (length w - e) (drop e w))
    → Members s (take (length w - e) (drop e w)) v Block b → Fresh s (put_mid e (length w - e) w v) n (e + b)
begins {s} {w} {v} {n} {e} {b} f r x l k =
    let h : e ≤ length w = (let q = x.some in omega arith) in
    fresh_blocks f r x (back_long e w v h l) k.few (puts_behind (of_class s Block) w v e b h l k.puts)

-- THE SECTIONS ------------------------------------------------------------------------------------

-- the room in its sections
pub record Cut (w order marks heads counts rows links : List ℕ) (n : ℕ) : Type 0 where
  pub whole : w ≡ order ++ (marks ++ (heads ++ (counts ++ (rows ++ links))))
  pub order_long : length order ≡ n
  pub marks_long : length marks ≡ n
  pub heads_long : length heads ≡ n
  pub counts_long : length counts ≡ n
  pub rows_long : length rows ≡ 2 * n

pub cut_is : {w order a marks b heads c counts d rows links : List ℕ} {n : ℕ} → w ≡ order ++ a → length order ≡ n → a ≡ marks ++ b → length marks ≡ n → b ≡ heads ++ c → length heads ≡ n
    → c ≡ counts ++ d → length counts ≡ n → d ≡ rows ++ links → length rows ≡ 2 * n → Cut w order marks heads counts rows links n
cut_is e i f j g k h l x m = record { whole = rw (e, f, g, h, x); order_long = i; marks_long = j; heads_long = k; counts_long = l; rows_long = m }

-- word p of what stands behind n words
behind_at : (a b : List ℕ) (n p : ℕ) → length a ≡ n → get_or (a ++ b) (n + p) 0 ≡ get_or b p 0
behind_at a b n p e = rw (← e) (get_or-append-add a b p 0)

module _ {s w order marks heads counts rows links : List ℕ} {n begun : ℕ} (x : Fresh s w n begun) (k : Cut w order marks heads counts rows links n) where
  pub links_long : fields * n ≤ length links
  links_long =
      let z = ap length k.whole in
      let r = x.room in
      omega (arith, length-append order (marks ++ (heads ++ (counts ++ (rows ++ links)))), length-append marks (heads ++ (counts ++ (rows ++ links))), length-append heads (counts ++ (rows ++ links)), length-append counts (rows ++ links), length-append rows links, k.order_long, k.marks_long, k.heads_long, k.counts_long, k.rows_long)

  -- behind the order all is 0
  zero_behind : (p : ℕ) → p < links_at n + fields * n - n → get_or (marks ++ (heads ++ (counts ++ (rows ++ links)))) p 0 ≡ 0
  zero_behind p h = sym (behind_at order _ n p k.order_long) ∙ rw (← k.whole) (x.zeros (n + p) (omega arith) (omega arith))

  zero_marks : (p : ℕ) → p < n → get_or marks p 0 ≡ 0
  zero_marks p h = sym (get_or_append_left marks _ 0 p (let z = k.marks_long in omega arith)) ∙ zero_behind p (omega arith)

  zero_heads : (p : ℕ) → p < n → get_or heads p 0 ≡ 0
  zero_heads p h = sym (get_or_append_left heads _ 0 p (let z = k.heads_long in omega arith)) ∙ (sym (behind_at marks _ n p k.marks_long) ∙ zero_behind (n + p) (omega arith))

  zero_rows : (p : ℕ) → p < n + n → get_or rows p 0 ≡ 0
  zero_rows p h =
      sym (get_or_append_left rows links 0 p (let z = k.rows_long in omega arith))
      ∙ (sym (behind_at counts _ n p k.counts_long)
      ∙ (sym (behind_at heads _ n (n + p) k.heads_long) ∙ (sym (behind_at marks _ n (n + (n + p)) k.marks_long) ∙ zero_behind (n + (n + (n + p))) (omega arith))))

  pub nothing_enlisted : Enlisted s heads links counts rows (length s / size) 0
  nothing_enlisted = rw (← x.fair.counted) (enlisted_start x.fair k.heads_long links_long k.counts_long (let z = k.rows_long in omega arith) zero_heads zero_rows)

  pub begun_is : take begun order ≡ begun_of (nodes_of s)
  begun_is = let l = k.order_long in let z = x.some in front_span order (marks ++ (heads ++ (counts ++ (rows ++ links)))) begun (omega arith) ∙ rw (← k.whole) x.first

  pub none_settled : {hs ls cs rs : List ℕ} → Enlisted s hs ls cs rs (length s / size) (length s / size) → Standing s (take begun order) hs ls cs rs (length s / size) 0
  none_settled e = opens e (take begun order) begun_is (let z = x.some in let y = x.fair.counted in let l = k.order_long in omega (arith, length-take begun order))

  -- the sections when all but the marks have been written
  module _ {order' heads' counts' rows' links' : List ℕ} {filled : ℕ} (long : length order' ≡ length order) (r' : Released s order' heads' links' counts' rows' (length s / size) filled) where
    abbrev back : List ℕ
    back = order' ++ (marks ++ (heads' ++ (counts' ++ (rows' ++ links'))))

    r : Released s order' heads' links' counts' rows' n filled
    r = rw (← x.fair.counted) at r'

    filled_some : filled ≤ n
    filled_some = let a = r.standing.upto in let b = r.standing.some in omega arith

    front_is : span back 0 filled ≡ take filled order'
    front_is = let z = filled_some in let l = k.order_long in sym (front_span order' _ filled (omega arith))

    pub completes : Unmarked back n filled
    completes = record {
      within = filled_some;
      fits = let l = k.order_long in let m = k.marks_long in omega (arith, length-append order' (marks ++ (heads' ++ (counts' ++ (rows' ++ links')))), length-append marks (heads' ++ (counts' ++ (rows' ++ links'))));
      small = x.fair.few;
      apart = rw front_is r.standing.stands.distinct;
      below = rw front_is r.standing.stands.below;
      clear = λ p h. behind_at order' _ n p (long ∙ k.order_long) ∙ (get_or_append_left marks _ 0 p (let z = k.marks_long in omega arith) ∙ zero_marks p h);
    }

    pub complete_is : span back 0 filled ≡ order_of (nodes_of s)
    complete_is = front_is ∙ r.whole

-- PLACES ------------------------------------------------------------------------------------------

-- a mark of 0 says that the id is not in the order
mark_has : (o : List ℕ) (p : ℕ) → eqb (mark_of o p) 0 ≡ not (has p o)
unfolding mark_of
mark_has o p = go (lowest (eqb p) o) refl
  where
    go : (r : Option ℕ) → lowest (eqb p) o ≡ r → eqb (mark_of o p) 0 ≡ not (has p o)
    go None e = rw (e, mark_of) (missing (has p o) refl)
      where
        missing : (b : Bool) → has p o ≡ b → true ≡ not (has p o)
        missing true h = absurd (clash (let z = lowest_none (eqb p) o e p (has_in p o h) in let y = eq-eqb p p refl in cc))
        missing false h = rw h
    go (Some i) e = rw (e, mark_of) (ne_eqb (suc i) 0 (λ z. omega arith) ∙ ap not (sym (in_has p o (there i e))))
      where
        there : (i : ℕ) → lowest (eqb p) o ≡ Some i → Memᴰ p o
        there i e = rw (eqb-true p _ (lowest_passes (eqb p) o i 0 e)) (get_d_mem o i 0 (lowest_lt (eqb p) o i e))

pub orders : {s w w₁ : List ℕ} {n filled : ℕ} {r : Option ℕ} → Fair s n → Unmarked w n filled → span w 0 filled ≡ order_of (nodes_of s) → length w₁ ≡ length w → Marked w w₁ n filled
    → r ≡ (lowest (λ p. eqb (get_or w₁ (n + p) 0) 0) (run 0 n)) → Ordered s w₁ n r
unfolding unreleased ids
orders {s} {w} {w₁} {n} {filled} {r} fair u whole l m e = record {
  answer = e ∙ lowest_is;
  whole = λ z. whole_now z;
  marks = marks_now;
}
  where
    counted : length (nodes_of s) ≡ n
    counted = length_nodes_of s ∙ sym fair.counted

    marks_now : (p : ℕ) → p < n → get_or w₁ (n + p) 0 ≡ mark_of (order_of (nodes_of s)) p
    marks_now p h = m.marks p h ∙ ap (λ o. mark_of o p) whole

    lowest_is : lowest (λ p. eqb (get_or w₁ (n + p) 0) 0) (run 0 n) ≡ lowest (λ p. not (has p (order_of (nodes_of s)))) (run 0 (length (nodes_of s)))
    lowest_is = rw counted (lowest_agree _ _ 0 n (λ x u v. ap (λ k. eqb k 0) (marks_now x (omega arith)) ∙ mark_has (order_of (nodes_of s)) x))

    whole_now : lowest (λ p. not (has p (order_of (nodes_of s)))) (run 0 (length (nodes_of s))) ≡ None → span w₁ 0 n ≡ order_of (nodes_of s)
    whole_now none =
        let z = length_order (nodes_of s) (unreleased_all (nodes_of s) none) in
        let y : length (span w 0 filled) ≡ length (order_of (nodes_of s)) = ap length whole in
        let x = u.within in
        let v = u.fits in
        let c = counted in
        let f : filled ≡ n = omega (arith, span_length w 0 filled (omega arith)) in
        span_same w₁ w 0 n l (omega arith) (λ p b d. m.rest p (λ q. omega arith)) ∙ (ap (λ k. span w 0 k) (sym f) ∙ whole)
