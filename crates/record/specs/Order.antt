-- Document 01, 'Records': a digest is compared as one thing.
-- Assumes nothing: these are definitions.
use Rattle.std.specs.Prelude.{ℕ, Bool, true, false, List, [], ◌∷◌, ltb}
use Rattle.std.specs.declared.cmp.Ordering.{Ordering}
use Rattle.std.specs.declared.cmp.Ordering.TheVariants.{Less, Equal, Greater}

-- the words of a digest in the order in which they decide: the first, then the second, third, fourth
unfoldable pub deciding : List ℕ → List ℕ
deciding d = d

-- by the test: below, above, or as the rest says
unfoldable pub decided : Bool → Bool → Ordering → Ordering
decided true above rest = Less
decided false true rest = Greater
decided false false rest = rest

-- two lists of numbers, of which the first difference decides; a list goes before what continues it
unfoldable pub lex : List ℕ → List ℕ → Ordering
lex [] [] = Equal
lex [] (y ∷ ys) = Less
lex (x ∷ xs) [] = Greater
lex (x ∷ xs) (y ∷ ys) = decided (ltb x y) (ltb y x) (lex xs ys)

-- how one digest stands to another
unfoldable pub compared : List ℕ → List ℕ → Ordering
compared a b = lex (deciding a) (deciding b)

unfoldable pub is_less : Ordering → Bool
is_less Less = true
is_less Equal = false
is_less Greater = false

-- one digest goes before another
unfoldable pub before : List ℕ → List ℕ → Bool
before a b = is_less (compared a b)
