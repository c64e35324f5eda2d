-- Merge's work room: where its sections of n words each begin. The state of each position stands from 0 on.
-- Assumes nothing: these are definitions.
use Rattle.std.specs.Prelude.{ℕ, ◌*◌}

-- the position that each merged id comes from
abbrev pub sources_at : ℕ → ℕ
sources_at n = 1 * n

-- the first position of each position's forest
abbrev pub bases_at : ℕ → ℕ
bases_at n = 2 * n

-- the non-externals by digest
abbrev pub holders_at : ℕ → ℕ
holders_at n = 3 * n

-- the sort's spare section
abbrev pub spare_at : ℕ → ℕ
spare_at n = 4 * n

-- the sources of merged nodes in their canonical order
abbrev pub order_at : ℕ → ℕ
order_at n = 5 * n

-- the place of each merged id in that order
abbrev pub places_at : ℕ → ℕ
places_at n = 6 * n

-- whether a new id is a root
abbrev pub listed_at : ℕ → ℕ
listed_at n = 7 * n

-- the new roots
abbrev pub starts_at : ℕ → ℕ
starts_at n = 8 * n
