-- What the table's rows cut out of a list, mapped with the first position and the node count of each forest: nodes and roots alike.
-- Assumes nothing.
use Prim.Native.Nat.{ℕ, zero, suc, ◌+◌, ◌-◌, ◌<◌, ◌≤◌}
use mathlib.Core.Path.{◌≡◌, refl, sym, ◌∙◌, ap}
use mathlib.Core.List.{List, [], ◌∷◌, ◌++◌, map}
use native.Mathlib.Omega.{arith}
use lib.ListN.{length, take, drop, get_or, length-append, length-take, length-drop, length-map, get_or-append}
use lib.Seq.{get_or-append-add, get_or-take, get_or-drop}
use Rattle.record.specs.Lists.{flat}
use Rattle.record.specs.declared.Node.{Node}
use Rattle.record.specs.declared.Row.{Row}
use Rattle.forest.specs.Graph.{forests}
use Rattle.forest.specs.Lists.{sum}
use Rattle.sorting.proofs.Uses.{get_d_map}
use Rattle.merger.proofs.Sums.{before, no_row}

-- the columns
abbrev pub node_count : Row → ℕ
node_count r = r.nodes

abbrev pub root_count : Row → ℕ
root_count r = r.roots

module _ {A B : Type 0} where
  -- each row takes as many elements as its column says; h is told the position of its forest's first node and how many nodes that has
  unfoldable pub cut : (Row → ℕ) → (ℕ → ℕ → A → B) → ℕ → List Row → List A → List B
  cut col h b [] l = []
  cut col h b (r ∷ rows) l = map (h b r.nodes) (take (col r) l) ++ cut col h (b + r.nodes) rows (drop (col r) l)

  module _ (col : Row → ℕ) (h : ℕ → ℕ → A → B) where
    -- nothing is lost where the column adds up to the length
    pub cut_long : (b : ℕ) (rows : List Row) (l : List A) → length l ≡ sum (map col rows) → length (cut col h b rows l) ≡ length l
    unfolding cut sum
    cut_long b [] l e = sym e
    cut_long b (r ∷ rows) l e =
        let q = length-drop (col r) l in
        let k : length (cut col h (b + r.nodes) rows (drop (col r) l)) ≡ length (drop (col r) l) = cut_long (b + r.nodes) rows (drop (col r) l) (omega arith) in
        simp (length-append, length-map, length-take) (omega arith)

    -- the element at place p, if row number i takes it
    pub cut_at : (x : A) (y : B) (b : ℕ) (rows : List Row) (l : List A) (i p : ℕ) → i < length rows → before col rows i ≤ p → p < before col rows (suc i) → p < length l
        → get_or (cut col h b rows l) p y ≡ h (b + before node_count rows i) (get_or rows i no_row).nodes (get_or l p x)
    unfolding cut sum
    cut_at x y b [] l i p s low high t = absurd (omega arith)
    cut_at x y b (r ∷ rows) l zero p s low high t =
        let e : b + 0 ≡ b = omega arith in
        let m : p < length (take (col r) l) = omega (arith, length-take (col r) l) in
        let n : p < length (map (h b r.nodes) (take (col r) l)) = simp length-map m in
        get_or-append (map (h b r.nodes) (take (col r) l)) (cut col h (b + r.nodes) rows (drop (col r) l)) y p n ∙ (get_d_map (h b r.nodes) (take (col r) l) p x y m ∙ rw (e, get_or-take (col r) l p x (omega arith)))
    cut_at x y b (r ∷ rows) l (suc i) p s low high t =
        let m : length (map (h b r.nodes) (take (col r) l)) ≡ col r = simp (length-map, length-take) (omega arith) in
        let q : p ≡ length (map (h b r.nodes) (take (col r) l)) + (p - col r) = omega arith in
        let e : b + r.nodes + before node_count rows i ≡ b + (r.nodes + before node_count rows i) = omega arith in
        let o : col r + (p - col r) ≡ p = omega arith in
        ap (λ (j : ℕ). get_or (map (h b r.nodes) (take (col r) l) ++ cut col h (b + r.nodes) rows (drop (col r) l)) j y) q
        ∙ (get_or-append-add (map (h b r.nodes) (take (col r) l)) (cut col h (b + r.nodes) rows (drop (col r) l)) (p - col r) y
        ∙ (cut_at x y (b + r.nodes) rows (drop (col r) l) i (p - col r) (omega arith) (omega arith) (omega arith) (omega (arith, length-drop (col r) l))
        ∙ rw (e, get_or-drop (col r) l (p - col r) x, o)))

-- what the forests hold, nodes and roots, is cut out so: the other of the two does not matter
pub nodes_cut : {B : Type 0} (h : ℕ → ℕ → Node → B) (b : ℕ) (rows : List Row) (ns : List Node) (rs : List ℕ)
    → flat (λ f. map (h f.base f.count) f.nodes) (forests b rows ns rs) ≡ cut node_count h b rows ns
unfolding flat forests cut
nodes_cut h b [] ns rs = refl
nodes_cut h b (r ∷ rows) ns rs = rw (nodes_cut h (b + r.nodes) rows (drop r.nodes ns) (drop r.roots rs))

pub roots_cut : {B : Type 0} (h : ℕ → ℕ → ℕ → B) (b : ℕ) (rows : List Row) (ns : List Node) (rs : List ℕ)
    → flat (λ f. map (h f.base f.count) f.roots) (forests b rows ns rs) ≡ cut root_count h b rows rs
unfolding flat forests cut
roots_cut h b [] ns rs = refl
roots_cut h b (r ∷ rows) ns rs = rw (roots_cut h (b + r.nodes) rows (drop r.nodes ns) (drop r.roots rs))
