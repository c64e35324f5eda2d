-- The room in five parts: states, sources, bases, holders and what stands behind them.
-- Assumes nothing.
use Prim.Native.Nat.{ℕ, ◌+◌, ◌-◌, ◌<◌}
use mathlib.Core.Path.{◌≡◌, refl, ◌∙◌, ap}
use mathlib.Core.List.{List, ◌++◌}
use native.Mathlib.Omega.{arith}
use Rattle.std.proofs.lemmas.List.{get_or_append_left, get_or-append_right}
use lib.ListN.{length, get_or, length-append}
use Rattle.merger.specs.Sections.{sources_at, bases_at, holders_at, spare_at}

-- the first four have n words each
pub record Parts (w v u b h z : List ℕ) (n : ℕ) : Type 0 where
  pub whole : w ≡ v ++ (u ++ (b ++ (h ++ z)))
  pub states : length v ≡ n
  pub sources : length u ≡ n
  pub bases : length b ≡ n
  pub holders : length h ≡ n

-- a room that is cut four times
pub cut : {w v u b h z w₁ w₂ w₃ : List ℕ} {n : ℕ} → w ≡ v ++ w₁ → w₁ ≡ u ++ w₂ → w₂ ≡ b ++ w₃ → w₃ ≡ h ++ z → length v ≡ n → length u ≡ n → length b ≡ n → length h ≡ n → Parts w v u b h z n
cut e₁ e₂ e₃ e₄ i j k l = record { whole = rw (e₁, e₂, e₃, e₄) refl; states = i; sources = j; bases = k; holders = l }

-- what stands behind the n words of a
behind : (a c : List ℕ) (n : ℕ) → length a ≡ n → (k y : ℕ) → y ≡ n + k → get_or (a ++ c) y 0 ≡ get_or c k 0
behind a c n e k y i = get_or-append_right a c n y 0 e (omega arith) ∙ (let z : y - n ≡ k = omega arith in ap (λ (j : ℕ). get_or c j 0) z)

module _ {w v u b h z : List ℕ} {n : ℕ} (p : Parts w v u b h z n) where
  pub parts_long : length w ≡ spare_at n + length z
  parts_long = rw p.whole (simp length-append (let s = p.states in let o = p.sources in let l = p.bases in let f = p.holders in omega arith))

  pub at_state : (k : ℕ) → k < n → get_or w k 0 ≡ get_or v k 0
  at_state k l = rw p.whole (get_or_append_left v (u ++ (b ++ (h ++ z))) 0 k (let e = p.states in omega arith))

  pub at_source : (k : ℕ) → k < n → get_or w (sources_at n + k) 0 ≡ get_or u k 0
  at_source k l = rw p.whole (behind v (u ++ (b ++ (h ++ z))) n p.states k (sources_at n + k) (omega arith) ∙ get_or_append_left u (b ++ (h ++ z)) 0 k (let e = p.sources in omega arith))

  pub at_base : (k : ℕ) → k < n → get_or w (bases_at n + k) 0 ≡ get_or b k 0
  at_base k l =
      rw p.whole
      (behind v (u ++ (b ++ (h ++ z))) n p.states (n + k) (bases_at n + k) (omega arith)
      ∙ (behind u (b ++ (h ++ z)) n p.sources k (n + k) (omega arith) ∙ get_or_append_left b (h ++ z) 0 k (let e = p.bases in omega arith)))

  pub at_spare : (k : ℕ) → get_or w (spare_at n + k) 0 ≡ get_or z k 0
  at_spare k =
      rw p.whole
      (behind v (u ++ (b ++ (h ++ z))) n p.states (holders_at n + k) (spare_at n + k) (omega arith)
      ∙ (behind u (b ++ (h ++ z)) n p.sources (bases_at n + k) (holders_at n + k) (omega arith)
      ∙ (behind b (h ++ z) n p.bases (n + k) (bases_at n + k) (omega arith) ∙ behind h z n p.holders k (n + k) (omega arith))))
