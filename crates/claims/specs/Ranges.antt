-- What the checks of ranges say of the joined graph; and no path holds more distinct nodes than there are.
-- Assumes nothing.
use Rattle.std.specs.Prelude.{ℕ, ◌+◌, ◌<◌, ◌≤◌, ◌≡◌, Bool, not, ◌⊎◌, leb, ltb, drop, Some, None}
use Rattle.std.proofs.Math.Path.{refl}
use Rattle.std.proofs.Math.Bool.{true, false}
use mathlib.Core.List.Memᴰ
use mathlib.Core.List.{List, [], ◌∷◌, map, Memᴰ}
use Rattle.std.proofs.Common.{inl, inr, ltb-true, leb-false, length-append, length-take, length-drop}
use native.Mathlib.Omega.{arith}
use Rattle.std.proofs.lemmas.Bool.{not-false}
use Rattle.std.proofs.Math.ListN.{length}
use Rattle.std.proofs.lemmas.List.{length-map}
use Rattle.record.specs.Lists.{flat}
use Rattle.record.specs.Node.{is_external, children}
use Rattle.record.specs.declared.Node.{Node}
use Rattle.record.specs.declared.Row.{Row}
use Rattle.record.proofs.Basics.{clash}
use Rattle.record.proofs.Nodes.{child_from}
use Rattle.forest.specs.Graph.{Forest, forests, joined, joined_roots, far_root, far_kid, far_child, at, replacement, replaced_by}
use Rattle.forest.specs.Lists.{sum}
use Rattle.claims.specs.Children.{parent_in}
use Rattle.claims.specs.Distinct.{pigeonhole}
use Rattle.claims.specs.Paths.{Step, child, replaced, Path, root, onto, LongPath}
use Rattle.claims.specs.Searches.{lowest_none, last_of_none, highest_lt, first_some_none, flat_from, flat_in}

-- each forest ends at or below n
Below : ℕ → List Forest → Type 0
Below n fs = (f : Forest) → Memᴰ f fs → f.base + f.count ≤ n

roots_below : (n : ℕ) (fs : List Forest) → Below n fs → far_root fs ≡ None → (r : ℕ) → Memᴰ r (joined_roots fs) → r < n
unfolding Below far_root joined_roots
roots_below n fs b e r m =
    let (f, k, h) = flat_from _ fs r m in
    let (x, u, q) = Memᴰ.of_map _ f.roots h in
    let t : x < f.count = ltb-true x f.count (not-false _ (lowest_none not _ e _ (flat_in _ fs f _ k (Memᴰ.map (λ y. ltb y f.count) u)))) in
    let w : f.base + f.count ≤ n = b f k in
    omega arith

kids_below : (n : ℕ) (fs : List Forest) → Below n fs → far_child fs ≡ None → (m : Node) → Memᴰ m (joined fs) → (c : ℕ) → Memᴰ c (children m) → c < n
unfolding Below far_child far_kid joined
kids_below n fs b e m i c j =
    let (f, k, h) = flat_from _ fs m i in
    let (x, u, q) = Memᴰ.of_map _ f.nodes h in
    let (y, v, z) = child_from (λ y. f.base + y) x c (rw (← q) at j) in
    let t : y < f.count = leb-false f.count y (last_of_none (leb f.count) (children x) (first_some_none 0 _ e _ (flat_in _ fs f _ k (Memᴰ.map (far_kid f.count) u))) y v) in
    let w : f.base + f.count ≤ n = b f k in
    omega arith

forests_below : (b : ℕ) (rs : List Row) (ns : List Node) (roots : List ℕ) (n : ℕ) → b + sum (map (λ r. r.nodes) rs) ≤ n → Below n (forests b rs ns roots)
unfolding Below forests sum
forests_below b [] ns roots n h f m = absurd (Memᴰ.not-nil m)
forests_below b (r ∷ rs) ns roots n h f (Memᴰ.head e) = rw e (omega arith)
forests_below b (r ∷ rs) ns roots n h f (Memᴰ.tail m) = forests_below (b + r.nodes) rs (drop r.nodes ns) (drop r.roots roots) n (omega arith) f m

-- the joined graph has as many nodes as the rows say, where there are as many records
pub joined_count : (b : ℕ) (rs : List Row) (ns : List Node) (roots : List ℕ) → length ns ≡ sum (map (λ r. r.nodes) rs) → length (joined (forests b rs ns roots)) ≡ sum (map (λ r. r.nodes) rs)
unfolding forests sum joined flat
joined_count b [] ns roots h = refl
joined_count b (r ∷ rs) ns roots h =
    let k : length (joined (forests (b + r.nodes) rs (drop r.nodes ns) (drop r.roots roots))) ≡ sum (map (λ x. x.nodes) rs) = joined_count (b + r.nodes) rs (drop r.nodes ns) (drop r.roots roots) (omega (arith, length-drop r.nodes ns)) in
    simp (length-append, length-map, length-take) (omega arith)

-- and no more roots than there are
pub joined_roots_lem : (b : ℕ) (rs : List Row) (ns : List Node) (roots : List ℕ) → length (joined_roots (forests b rs ns roots)) ≤ length roots
unfolding forests joined_roots flat
joined_roots_lem b [] ns roots = omega arith
joined_roots_lem b (r ∷ rs) ns roots =
    let k : length (joined_roots (forests (b + r.nodes) rs (drop r.nodes ns) (drop r.roots roots))) ≤ length (drop r.roots roots) = joined_roots_lem (b + r.nodes) rs (drop r.nodes ns) (drop r.roots roots) in
    simp (length-append, length-map, length-take) (omega (arith, length-drop r.roots roots))

-- a graph whose children and replacements stay below n
pub record Bounded (n : ℕ) (g : List Node) (roots : List ℕ) : Type 0 where
  pub kids : (m : Node) → Memᴰ m g → (c : ℕ) → Memᴰ c (children m) → c < n
  pub starts : (r : ℕ) → Memᴰ r roots → r < n
  pub count : length g ≤ n

module _ (n : ℕ) (g : List Node) (roots : List ℕ) (w : Bounded n g roots) where
  pub step_below : (p q : ℕ) → Step g p q → q < n
  unfolding replaced_by replacement
  step_below p q (child m) = w.kids (at g p) (parent_in g p q m) q m
  step_below p q (replaced e) = go (is_external (at g p)) refl
    where
      go : (b : Bool) → is_external (at g p) ≡ b → q < n
      go true t = let h : q < length g = highest_lt _ g q (rw (t, replaced_by) at e) in let k : length g ≤ n = w.count in omega arith
      go false t = absurd (clash (let z : None ≡ Some q = rw (t, replaced_by) at e in cc))

  path_below : {l : List ℕ} → Path (Step g) roots l → (x : ℕ) → Memᴰ x l → x < n
  path_below (root m) x k = w.starts x (rw (Memᴰ.eq_of_singleton k) m)
  path_below (onto {p = p} {q = q} {l = l} v s) x k = go (Memᴰ.cases_cons k) (path_below v x)
    where
      go : (x ≡ q) ⊎ Memᴰ x (p ∷ l) → (Memᴰ x (p ∷ l) → x < n) → x < n
      go (inl e) ih = rw e (step_below p q s)
      go (inr m) ih = ih m

-- no path holds more distinct nodes than there are
pub long_below : (n : ℕ) (g : List Node) (roots : List ℕ) → Bounded n g roots → (d : ℕ) → LongPath g roots d → d < n
long_below n g roots w d l =
    let h : length l.some_of ≤ n = pigeonhole n l.distinct (λ x m. path_below n g roots w l.path x (l.held x m)) in
    let k : d < length l.some_of = l.more in
    omega arith

pub forests_bounded : (rs : List Row) (ns : List Node) (roots : List ℕ) → length ns ≡ sum (map (λ r. r.nodes) rs) → far_root (forests 0 rs ns roots) ≡ None → far_child (forests 0 rs ns roots) ≡ None
    → Bounded (sum (map (λ r. r.nodes) rs)) (joined (forests 0 rs ns roots)) (joined_roots (forests 0 rs ns roots))
forests_bounded rs ns roots l e f =
    let h : Below (sum (map (λ r. r.nodes) rs)) (forests 0 rs ns roots) = forests_below 0 rs ns roots _ (omega arith) in
    record { kids = kids_below _ _ h f; starts = roots_below _ _ h e; count = let q = joined_count 0 rs ns roots l in omega arith }
