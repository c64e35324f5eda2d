-- Sections of a lent work room: a run of places, what lies outside it, and what a function writes into it.
-- Assumes nothing: these are definitions.
use Rattle.std.specs.Prelude.{ℕ, ◌+◌, ◌-◌, ◌≤◌, ◌≡◌, List, take, drop, get_or}

-- what stands from place a up to, not including, place e
unfoldable pub span : List ℕ → ℕ → ℕ → List ℕ
span w a e = take (e - a) (drop a w)

-- place p lies outside the n places from a on
abbrev pub Out : ℕ → ℕ → ℕ → Type 0
Out p a n = a ≤ p → a + n ≤ p

-- two sections of n places lie apart: in this form omega reads it
abbrev pub Apart : ℕ → ℕ → ℕ → Type 0
Apart a b n = n ≤ (a - b) + (b - a)

-- the n places from `to` on hold l, and nothing else has changed
pub record Puts (l w w' : List ℕ) (to n : ℕ) : Type 0 where
  pub put : span w' to (to + n) ≡ l
  pub rest : (p : ℕ) → Out p to n → get_or w' p 0 ≡ get_or w p 0
