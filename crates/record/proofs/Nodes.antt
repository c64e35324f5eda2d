-- Nodes: their classes, their children, and what they keep when they are renumbered.
-- Assumes nothing.
use Prim.Native.Nat.{ℕ, zero, suc, ◌+◌, ◌*◌, ◌^◌, ◌/◌, ◌<◌, ◌≤◌}
use mathlib.Core.Path.{◌≡◌, refl, sym, ◌∙◌, ap}
use mathlib.Core.Bool.{Bool, true, false, not, ◌&&◌}
use mathlib.Core.List.Memᴰ
use mathlib.Core.List.{List, [], ◌∷◌, ◌++◌, map, Memᴰ, append_assoc}
use mathlib.Core.Logic.{◌⊎◌, inl, inr}
use native.Mathlib.Omega.{arith}
use native.Mathlib.Nat.{pow-suc, pow-le-pow_right}
use lib.Dec.{ltb, eqb}
use borrow.Author.Tests.{ltb-false, eqb-true, not-false}
use lib.ListN.{length, take, drop, length-append, length-take, length-drop, length-map, take-append-drop}
use lib.Seq.{drop_at}
use Rattle.record.specs.Lists.{run, all, flat}
use Rattle.record.specs.Node.{fields, words, size, last_kind, record_at, node_at, nodes_of, node_bytes, class_of, rank, class, is_external, is_block, is_internal, bad, children, renumber}
use Rattle.record.specs.Number.{le, number, numbers}
use Rattle.record.specs.declared.Class.{Class}
use Rattle.record.specs.declared.Class.TheVariants.{External, Block, Internal}
use Rattle.record.specs.declared.Node.{Node}
use Rattle.record.proofs.Basics.{clash, both_true, either_false}
use Rattle.record.proofs.Lengths.{length_numbers, length_run, Full, length_node_bytes}
use Rattle.record.proofs.RoundTrip.{Octets, Within, Fits, record_back}

-- CLASSES -----------------------------------------------------------------------------------------

-- each node is of one class
pub classes : (n : Node) → (is_external n ≡ true) ⊎ ((is_block n ≡ true) ⊎ (is_internal n ≡ true))
unfolding is_external is_block is_internal class rank
classes n = go (class_of n.kind) refl
  where
    go : (c : Class) → class_of n.kind ≡ c → (eqb (rank (class_of n.kind)) 0 ≡ true) ⊎ ((eqb (rank (class_of n.kind)) 1 ≡ true) ⊎ (eqb (rank (class_of n.kind)) 2 ≡ true))
    go External e = inl (rw e)
    go Block e = inr (inl (rw e))
    go Internal e = inr (inr (rw e))

-- the classes' tests, by the rank
pub external_rank : (n : Node) → is_external n ≡ eqb (rank (class n)) 0
unfolding is_external rank
external_rank n = refl

pub block_rank : (n : Node) → is_block n ≡ eqb (rank (class n)) 1
unfolding is_block rank
block_rank n = refl

pub internal_rank : (n : Node) → is_internal n ≡ eqb (rank (class n)) 2
unfolding is_internal rank
internal_rank n = refl

pub rank_external : (n : Node) → is_external n ≡ true → rank (class n) ≡ 0
rank_external n e = eqb-true _ _ (sym (external_rank n) ∙ e)

pub rank_block : (n : Node) → is_block n ≡ true → rank (class n) ≡ 1
rank_block n e = eqb-true _ _ (sym (block_rank n) ∙ e)

pub rank_internal : (n : Node) → is_internal n ≡ true → rank (class n) ≡ 2
rank_internal n e = eqb-true _ _ (sym (internal_rank n) ∙ e)

pub not_both : (n : Node) → is_external n ≡ true → is_block n ≡ true → ⊥
not_both n a b = let x = rank_external n a in let y = rank_block n b in omega arith

pub not_internal : (n : Node) → (is_external n ≡ true) ⊎ (is_block n ≡ true) → is_internal n ≡ true → ⊥
not_internal n (inl a) b = let x = rank_external n a in let y = rank_internal n b in omega arith
not_internal n (inr a) b = let x = rank_block n a in let y = rank_internal n b in omega arith

zero_rank : (k : ℕ) → rank (class_of k) ≡ 0 → k ≡ 0
unfolding class_of rank
zero_rank zero e = refl
zero_rank (suc zero) e = absurd (clash (cc))
zero_rank (suc (suc k)) e = absurd (clash (cc))

-- an external has kind 0
pub kind_zero : (n : Node) → is_external n ≡ true → n.kind ≡ 0
unfolding class
kind_zero n e = zero_rank n.kind (rank_external n e)

-- CHILDREN ----------------------------------------------------------------------------------------

-- the children of a renumbered node are the renumbered children
pub children_renumber : (f : ℕ → ℕ) (n : Node) → children (renumber f n) ≡ map f (children n)
unfolding children renumber
children_renumber f n = go n.count n.kids
  where
    go : (c : ℕ) (l : List ℕ) → take c (map f (take c l) ++ drop c l) ≡ map f (take c l)
    go zero l = refl
    go (suc c) [] = refl
    go (suc c) (x ∷ l) = ap {B = List ℕ} (λ t. f x ∷ t) (go c l)

pub child_from : (f : ℕ → ℕ) (n : Node) (c : ℕ) → Memᴰ c (children (renumber f n)) → (x : ℕ) × Memᴰ x (children n) × (f x ≡ c)
child_from f n c m = Memᴰ.of_map f (children n) (rw (children_renumber f n) at m)

-- what a record that is not bad passed
pub record Good (n : Node) : Type 0 where
  pub kind_low : n.kind ≤ last_kind
  pub count_few : n.count ≤ fields
  pub childless : (not (is_internal n) && ltb 0 n.count) ≡ false
  pub unused_zero : all (eqb 0) (drop n.count n.kids) ≡ true

pub good : (n : Node) → bad n ≡ false → Good n
unfolding bad
good n e =
    let (abc, d) = either_false _ (not (all (eqb 0) (drop n.count n.kids))) e in
    let (ab, c) = either_false _ (not (is_internal n) && ltb 0 n.count) abc in
    let (a, b) = either_false (ltb last_kind n.kind) (ltb fields n.count) ab in
    record { kind_low = ltb-false _ _ a; count_few = ltb-false _ _ b; childless = c; unused_zero = not-false _ d }

-- a node that is not bad has children only if it is internal
pub good_internal : (n : Node) → bad n ≡ false → (c : ℕ) → Memᴰ c (children n) → is_internal n ≡ true
unfolding children
good_internal n e c m = go (is_internal n) refl
  where
    none_have : (k : ℕ) → ltb 0 k ≡ false → Memᴰ c (take k n.kids) → ⊥
    none_have zero q k = Memᴰ.not-nil k
    none_have (suc j) q k = let h : suc j ≤ 0 = ltb-false 0 (suc j) q in omega arith

    go : (b : Bool) → is_internal n ≡ b → is_internal n ≡ true
    go true q = q
    go false q = absurd (none_have n.count (let z = (good n e).childless in rw q at z) m)

-- renumbering makes no node bad
pub bad_renumber : (f : ℕ → ℕ) (n : Node) → length n.kids ≡ fields → bad n ≡ false → bad (renumber f n) ≡ false
unfolding bad renumber is_internal class children
bad_renumber f n l e = rw (drop_at (map f (take n.count n.kids)) (drop n.count n.kids) n.count counted) e
  where
    counted : length (map f (take n.count n.kids)) ≡ n.count
    counted = let h = (good n e).count_few in simp length-map (omega (arith, length-take n.count n.kids))

-- FITS --------------------------------------------------------------------------------------------

take_octets : (n : ℕ) (l : List ℕ) → Octets l → Octets (take n l)
take_octets n l h x m = h x (rw take-append-drop at (Memᴰ.append_left (drop n l) m))

drop_octets : (n : ℕ) (l : List ℕ) → Octets l → Octets (drop n l)
drop_octets n l h x m = h x (rw take-append-drop at (Memᴰ.append_right (take n l) m))

le_lt : (l : List ℕ) → Octets l → le l < 256 ^ length l
unfolding le
le_lt [] h = omega arith
le_lt (x ∷ l) h = let a = h x (Memᴰ.head refl) in let b = le_lt l (λ z k. h z (Memᴰ.tail k)) in omega (arith, pow-suc 256 (length l))

-- k bytes hold less than 256 ^ k
pub number_lt : (k : ℕ) (s : List ℕ) (at : ℕ) → Octets s → number k s at < 256 ^ k
unfolding number
number_lt k s at h =
    let l : List ℕ = take k (drop at s) in
    let a = le_lt l (take_octets k (drop at s) (drop_octets at s h)) in
    let b : 256 ^ length l ≤ 256 ^ k = pow-le-pow_right (omega arith) (omega (arith, length-take k (drop at s))) in
    omega arith

numbers_within : (k n : ℕ) (s : List ℕ) (at : ℕ) → Octets s → Within k (numbers k n s at)
unfolding numbers
numbers_within k zero s at h x m = absurd (Memᴰ.not-nil m)
numbers_within k (suc n) s at h x (Memᴰ.head e) = rw e (number_lt k s at h)
numbers_within k (suc n) s at h x (Memᴰ.tail m) = numbers_within k n s (at + k) h x m

-- what is read is full, and renumbering keeps it so
pub full_read : (s : List ℕ) (i : ℕ) → Full (node_at s i)
unfolding node_at record_at
full_read s i = record { kids_long = length_numbers 4 fields s (size * i + 8); digest_long = length_numbers 8 words s (size * i + (8 + 4 * fields)) }

pub full_renumber : (f : ℕ → ℕ) (n : Node) → Full n → Full (renumber f n)
unfolding renumber children
full_renumber f n t = record { kids_long = simp (length-append, length-map, length-take, length-drop) (let q = t.kids_long in omega arith); digest_long = t.digest_long }

-- what is read from bytes fits the struct
pub fits_read : (s : List ℕ) (i : ℕ) → Octets s → Fits (node_at s i)
unfolding node_at record_at
fits_read s i h = record {
  full = full_read s i;
  kind_fits = number_lt 4 s (size * i) h;
  count_fits = number_lt 4 s (size * i + 4) h;
  kids_fit = numbers_within 4 fields s (size * i + 8) h;
  digest_fits = numbers_within 8 words s (size * i + (8 + 4 * fields)) h;
}

-- what renumbering keeps of a record that is not bad
pub record Written (n : Node) : Type 0 where
  pub full : Full n
  pub passes : bad n ≡ false
  pub digest_fits : Within 8 n.digest

pub written_read : (s : List ℕ) (i : ℕ) → Octets s → bad (node_at s i) ≡ false → Written (node_at s i)
written_read s i h e = record { full = full_read s i; passes = e; digest_fits = (fits_read s i h).digest_fits }

pub written_renumber : (f : ℕ → ℕ) (n : Node) → Written n → Written (renumber f n)
unfolding renumber
written_renumber f n w = record { full = full_renumber f n w.full; passes = bad_renumber f n w.full.kids_long w.passes; digest_fits = w.digest_fits }

zeros_fit : (l : List ℕ) → all (eqb 0) l ≡ true → Within 4 l
unfolding all
zeros_fit [] e x m = elim m [ ]
zeros_fit (y ∷ l) e x (Memᴰ.head q) = let z : 0 ≡ y = eqb-true 0 y (both_true (eqb 0 y) (all (eqb 0) l) e).0 in omega arith
zeros_fit (y ∷ l) e x (Memᴰ.tail m) = zeros_fit l (both_true (eqb 0 y) (all (eqb 0) l) e).1 x m

-- it fits the struct if its children do
pub written_fits : (n : Node) → Written n → Within 4 (children n) → Fits n
unfolding children
written_fits n w h =
    let g = good n w.passes in
    record {
      full = w.full;
      kind_fits = let k = g.kind_low in omega arith;
      count_fits = let c = g.count_few in omega arith;
      kids_fit = λ x m. each x (Memᴰ.append_cases (take n.count n.kids) (rw take-append-drop m));
      digest_fits = w.digest_fits;
    }
  where
    each : (x : ℕ) → Memᴰ x (take n.count n.kids) ⊎ Memᴰ x (drop n.count n.kids) → x < 256 ^ 4
    each x (inl m) = h x m
    each x (inr m) = zeros_fit (drop n.count n.kids) (good n w.passes).unused_zero x m

-- ALL RECORDS -------------------------------------------------------------------------------------

pub length_nodes_of : (s : List ℕ) → length (nodes_of s) ≡ length s / size
unfolding nodes_of
length_nodes_of s = length-map (run 0 (length s / size)) (node_at s) ∙ length_run 0 (length s / size)

-- the bytes of full nodes are as many records
pub length_records : (ns : List Node) → ((n : Node) → Memᴰ n ns → Full n) → length (flat node_bytes ns) ≡ size * length ns
unfolding flat
length_records [] h = refl
length_records (n ∷ ns) h = simp (length-append, length_node_bytes n (h n (Memᴰ.head refl)), length_records ns (λ x m. h x (Memᴰ.tail m))) (omega arith)

-- records that were written one after the other are read again
pub nodes_back : (ns : List Node) → ((n : Node) → Memᴰ n ns → Fits n) → nodes_of (flat node_bytes ns) ≡ ns
unfolding nodes_of node_at run flat
nodes_back ns h =
    let e = length_records ns (λ n m. (h n m).full) in
    let q : length (flat node_bytes ns) / size ≡ length ns = omega arith in
    rw q (go ns [] 0 (omega arith) h)
  where
    go : (ns : List Node) (p : List ℕ) (i : ℕ) → size * i ≡ length p → ((n : Node) → Memᴰ n ns → Fits n) → map (node_at (p ++ flat node_bytes ns)) (run i (length ns)) ≡ ns
    go [] p i e h = refl
    go (n ∷ ns) p i e h =
        let f = h n (Memᴰ.head refl) in
        let l = length_node_bytes n f.full in
        let a : node_at (p ++ (node_bytes n ++ flat node_bytes ns)) i ≡ n = record_back n f p (flat node_bytes ns) (size * i) e in
        let b : map (node_at ((p ++ node_bytes n) ++ flat node_bytes ns)) (run (suc i) (length ns)) ≡ ns = go ns (p ++ node_bytes n) (suc i) (simp length-append (omega arith)) (λ x m. h x (Memᴰ.tail m)) in
        let c : map (node_at (p ++ (node_bytes n ++ flat node_bytes ns))) (run (suc i) (length ns)) ≡ ns = rw append_assoc at b in
        rw (a, c)
