-- A set of ids below n as rows of bits, and how it changes.
-- Assumes nothing: these are definitions.
use Rattle.std.specs.Prelude.{ℕ, ◌+◌, ◌*◌, ◌/◌, ◌%◌, ◌^◌, ◌≤◌, ◌<◌, ◌≡◌, Bool, not, List, eqb, length, drop, get_or}

-- how many bits a word has
abbrev pub width : ℕ
width = 32

-- how many words n bits take
abbrev pub words : ℕ → ℕ
words n = (n + 31) / width

-- word k of the rows
abbrev pub word : List ℕ → ℕ → ℕ
word w k = get_or w k 0

-- bit j of x
abbrev pub bit : ℕ → ℕ → ℕ
bit x j = x / 2 ^ j % 2

-- id i is in the set: bit i % 32 of word i / 32 is set
abbrev pub member : List ℕ → ℕ → ℕ → Bool
member w n i = not (eqb (bit (word w (i / width)) (i % width)) 0)

-- a row of n bits: behind the last id no bit is set
pub record Row (w : List ℕ) (n : ℕ) : Type 0 where
  pub fits : words n ≤ length w
  pub clear : (k j : ℕ) → k < words n → j < width → n ≤ width * k + j → bit (word w k) j ≡ 0

-- a set of ids below n: a row of n bits and, if that is more than one word, behind it the set of those words of the row that are not 0
pub data Tree : List ℕ → ℕ → Type 0 where
  one : {w : List ℕ} {n : ℕ} → n ≤ width → Row w n → Tree w n
  more : {w : List ℕ} {n : ℕ} → width < n → Row w n
      → ((k : ℕ) → k < words n → member (drop (words n) w) (words n) k ≡ not (eqb (word w k) 0))
      → Tree (drop (words n) w) (words n)
      → Tree w n

-- word k is part of a row
pub data InRow : ℕ → ℕ → Type 0 where
  here : {n k : ℕ} → k < words n → InRow n k
  above : {n k : ℕ} → width < n → InRow (words n) k → InRow n (words n + k)

-- w' is w with id i in the set if b is true and out of it if not: no other id, no word outside the rows has changed
pub record Changed (b : Bool) (w w' : List ℕ) (n i : ℕ) : Type 0 where
  pub tree : Tree w' n
  pub changed : member w' n i ≡ b
  pub others : (j : ℕ) → j < n → (j ≡ i → ⊥) → member w' n j ≡ member w n j
  pub unused : (k : ℕ) → k < n + n → (InRow n k → ⊥) → word w' k ≡ word w k
  pub rest : (p : ℕ) → n + n ≤ p → get_or w' p 0 ≡ get_or w p 0
