-- A list of refusals of which none applies: then none of its members does.
-- Assumes nothing.
use Rattle.std.specs.Prelude.{◌≡◌, refl, Bool, true, false, List, [], ◌∷◌, ◌++◌, Option, Some, None}
use Rattle.record.proofs.Basics.{clash}
use Rattle.forest.specs.Lent.{when, naming, first}
use Rattle.forest.specs.declared.Reply.{Reply}

-- where none refuses, none of the checks does
pub first_none : (o : Option Reply) (os : List (Option Reply)) → first (o ∷ os) ≡ None → (o ≡ None) × (first os ≡ None)
unfolding first
first_none None os e = (refl, e)
first_none (Some r) os e = absurd (clash (cc))

pub naming_none : {A : Type 0} (f : A → Reply) (o : Option A) → naming f o ≡ None → o ≡ None
unfolding naming
naming_none f None e = refl
naming_none f (Some a) e = absurd (clash (cc))

pub when_none : (b : Bool) (r : Reply) → when b r ≡ None → b ≡ false
unfolding when
when_none true r e = absurd (clash (cc))
when_none false r e = refl

pub first_append : (a b : List (Option Reply)) → first a ≡ None → first (a ++ b) ≡ first b
unfolding first
first_append [] b e = refl
first_append (None ∷ a) b e = first_append a b e
first_append (Some r ∷ a) b e = absurd (clash (cc))

pub first_both : (a b : List (Option Reply)) → first (a ++ b) ≡ None → (first a ≡ None) × (first b ≡ None)
unfolding first
first_both [] b e = (refl, e)
first_both (None ∷ a) b e = first_both a b e
first_both (Some r ∷ a) b e = absurd (clash (cc))
