use Rattle.std.proofs.Common.{◌≡◌, ℕ, zero, suc, refl}
use borrow.Author.Rules.{rules}
use Rattle.record.specs.Node.{class_of}
use Rattle.record.specs.declared.Class.TheVariants.{Internal}
use Rattle.record.proofs.class_of.Goals as goal

-- a kind that is neither 0 nor 1
other : (k : ℕ) → (k ≡ 0 → ⊥) → (k ≡ 1 → ⊥) → Internal ≡ class_of k
unfolding class_of
other zero a b = absurd (a refl)
other (suc zero) a b = absurd (b refl)
other (suc (suc k)) a b = refl

pub returns-in-0 : goal.returns-in-0
unfolding class_of
returns-in-0 c = rw c.in-0.is

pub returns-in-1 : goal.returns-in-1
unfolding class_of
returns-in-1 c = rw c.in-1.is

pub returns-in_default : goal.returns-in_default
returns-in_default c = other c.args.kind (search rules) (search rules)
