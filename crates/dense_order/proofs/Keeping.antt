-- Laws of a forest in dense order: its own order is the canonical one.
-- Assumes nothing.
use Prim.Native.Nat.{ℕ, suc, ◌+◌, ◌-◌, ◌*◌, ◌/◌, ◌<◌, ◌≤◌}
use mathlib.Core.Path.{◌≡◌, refl, ap, sym, ◌∙◌}
use mathlib.Core.List.{List, ◌++◌}
use Rattle.std.specs.Prelude.{None, Ok}
use native.Mathlib.Decide.{ℕ_discrete}
use native.Mathlib.Omega.{arith}
use borrow.Author.Tests.{eq-eqb, ne_eqb}
use lib.Dec.{eqb}
use lib.ListN.{length, set, get_or, length-set, length-append}
use Rattle.std.proofs.lemmas.List.{set-append_left, set-append_right}
use lib.Seq.{get_or-set_same, get_or-set_other, ext_get_or}
use Rattle.record.specs.Lists.{run}
use Rattle.record.specs.Node.{size, nodes_of}
use Rattle.record.proofs.Lengths.{length_run}
use Rattle.record.proofs.Nodes.{length_nodes_of}
use Rattle.forest.specs.Lent.{first}
use Rattle.forest.specs.Order.{ids, order}
use Rattle.forest.specs.Validate.{node_faults}
use Rattle.forest.specs.Canonicalize.{disorders}
use Rattle.claims.specs.Accepting.{orderly_faults}
use Rattle.claims.specs.Again.{valid, order_ids, valid_orderly}
use Rattle.claims.specs.Searches.{lowest_at}
use Rattle.sorting.proofs.Uses.{run_at}
use Rattle.room.specs.Sections.{span}
use Rattle.room.proofs.Spans.{span_length, span_at}
use Rattle.dense_order.specs.Found.{check_of}
use Rattle.dense_order.specs.Marks.{mark_of}
use Rattle.dense_order.specs.Kinds.{Kept}
use Rattle.dense_order.specs.Steps.{Answers}

pub kept_start : (w : List ℕ) (n : ℕ) → Kept w w n 0
kept_start w n = record { own = λ p h. absurd (omega arith); marks = λ p h. absurd (omega arith); rest = λ y a b. refl }

pub kept_next : {w v : List ℕ} {n k : ℕ} → Kept w v n k → k < n → 2 * n ≤ length v → Kept w (set (set v k k) (n + k) (k + 1)) n (k + 1)
kept_next {w} {v} {n} {k} r h l =
    record {
      own =
          λ p q.
          get_or-set_other (set v k k) (n + k) p (k + 1) 0 (omega arith)
          ∙ elim (ℕ_discrete p k) [
            | yes e ↦ rw e (get_or-set_same v k k 0 (omega arith))
            | no e ↦ get_or-set_other v k p k 0 e ∙ r.own p (omega arith)
          ];
      marks =
          λ p q.
          elim (ℕ_discrete p k) [
            | yes e ↦ rw e (get_or-set_same (set v k k) (n + k) (k + 1) 0 (simp length-set (omega arith)) ∙ (let z : k + 1 ≡ suc k = omega arith in z))
            | no e ↦ get_or-set_other (set v k k) (n + k) (n + p) (k + 1) 0 (omega arith) ∙ (get_or-set_other v k (n + p) k 0 (omega arith) ∙ r.marks p (omega arith))
          ];
      rest =
          λ y a b.
          get_or-set_other (set v k k) (n + k) y (k + 1) 0 (λ z. omega (arith, b (omega arith)))
          ∙ (get_or-set_other v k y k 0 (λ z. omega (arith, a (omega arith))) ∙ r.rest y (λ z. omega (arith, a (omega arith))) (λ z. omega (arith, b (omega arith))));
    }

-- the same of the order a and the words m behind it
pub kept_both : {w : List ℕ} (a m : List ℕ) {n k : ℕ} → Kept w (a ++ m) n k → length a ≡ n → k < n → n ≤ length m → Kept w (set a k k ++ set m k (k + 1)) n (k + 1)
kept_both a m {n} {k} r l h f =
    let z : n + k - n ≡ k = omega arith in
    rw (set-append_left a m k k (omega arith), set-append_right (set a k k) m n (n + k) (k + 1) (length-set a k k ∙ l) (omega arith), z) at (kept_next r h (omega (arith, length-append a m)))

pub kept_all : {w v : List ℕ} {n k : ℕ} → k ≤ n → n ≤ k → Kept w v n k → Kept w v n n
kept_all {w} {v} {n} {k} a b r = let z : k ≡ n = omega arith in rw z at r

mark_run : (n p : ℕ) → p < n → mark_of (run 0 n) p ≡ suc p
unfolding mark_of
mark_run n p h = rw (mark_of, lowest_at (eqb p) 0 n p (λ x b. ne_eqb p x (omega arith)) (eq-eqb p (0 + p) (omega arith)) h)

pub kept_answers : {s w v : List ℕ} {n : ℕ} → first (node_faults (nodes_of s)) ≡ None → n ≡ length s / size → 2 * n ≤ length v → Kept w v n n → Answers (disorders (nodes_of s)) s v n (Ok tt)
unfolding check_of ids
kept_answers {s} {w} {v} {n} e c l k =
    let g = nodes_of s in
    let counted : length g ≡ n = length_nodes_of s ∙ sym c in
    let own : order g ≡ run 0 n = order_ids g (valid g e) ∙ ap (run 0) counted in
    record {
      answer = rw (orderly_faults g (valid_orderly g (valid g e)));
      arranged = λ z. record { whole = whole ∙ sym own; marks = λ p h. rw own (k.marks p h ∙ sym (mark_run n p h)) };
    }
  where
    whole : span v 0 n ≡ run 0 n
    whole =
        let z = span_length v 0 n (omega arith) in
        let y = length_run 0 n in
        ext_get_or 0 (span v 0 n) (run 0 n) (omega arith)
        (λ i h. let b : i < n = omega arith in let x = span_at v 0 n i (omega arith) in let q = k.own i b in let r = run_at 0 n i b in x ∙ ((let u : 0 + i ≡ i = omega arith in ap (λ (j : ℕ). get_or v j 0) u) ∙ omega arith))
