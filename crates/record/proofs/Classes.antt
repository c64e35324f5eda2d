-- What the derived comparisons of two classes answer, by their ranks, and the class of a node whose kind was read.
-- Assumes nothing.
use Prim.Native.Nat.{ℕ}
use mathlib.Core.Path.{◌≡◌, refl, ap, sym, ◌∙◌}
use mathlib.Core.Bool.{Bool, true, false, not}
use lib.Dec.{eqb, ltb}
use denote.Enum.Bare.{sameb}
use Rattle.std.specs.Ordering.{partial_lt}
use Rattle.record.specs.contracts.Class.{the_type}
use Rattle.record.specs.contracts.ClassPartialOrd.TheImpl.{partial_cmp-value}
use Rattle.record.specs.declared.Class.{Class}
use Rattle.record.specs.declared.Class.TheVariants.{External, Block, Internal}
use Rattle.record.specs.declared.Node.{Node}
use Rattle.record.specs.Node.{class_of, rank, class}

-- `==`
pub class_eq : (a b : Class) → sameb the_type a b ≡ eqb (rank a) (rank b)
unfolding rank
class_eq External External = refl
class_eq External Block = refl
class_eq External Internal = refl
class_eq Block External = refl
class_eq Block Block = refl
class_eq Block Internal = refl
class_eq Internal External = refl
class_eq Internal Block = refl
class_eq Internal Internal = refl

-- what a test by `!=` says
pub class_other : (a b : Class) → not (sameb the_type a b) ≡ true → eqb (rank a) (rank b) ≡ false
class_other a b e = go (eqb (rank a) (rank b)) (ap not (sym (class_eq a b)) ∙ e)
  where
    go : (t : Bool) → not t ≡ true → t ≡ false
    go true q = cc
    go false q = refl

pub class_same : (a b : Class) → not (sameb the_type a b) ≡ false → eqb (rank a) (rank b) ≡ true
class_same a b e = go (eqb (rank a) (rank b)) (ap not (sym (class_eq a b)) ∙ e)
  where
    go : (t : Bool) → not t ≡ false → t ≡ true
    go true q = refl
    go false q = cc

-- `<`
pub class_lt : (a b : Class) → partial_lt partial_cmp-value.it a b ≡ ltb (rank a) (rank b)
unfolding rank
class_lt External External = refl
class_lt External Block = refl
class_lt External Internal = refl
class_lt Block External = refl
class_lt Block Block = refl
class_lt Block Internal = refl
class_lt Internal External = refl
class_lt Internal Block = refl
class_lt Internal Internal = refl

-- the class of the kind that was read of a node
pub class_read : (n : Node) {k : ℕ} {c : Class} → k ≡ n.kind → c ≡ class_of k → c ≡ class n
unfolding class
class_read n e f = f ∙ ap class_of e
