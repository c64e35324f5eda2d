-- A list of refusals and the outcome: the first refusal decides, and all may treat the work room alike.
-- Assumes nothing.
use Rattle.std.specs.Prelude.{ℕ, ◌≡◌, refl, Bool, true, false, List, [], ◌∷◌, ◌++◌, length, replicate, Option, Some, None}
use Rattle.std.proofs.Common.{sym, ◌∙◌, ap}
use Rattle.record.proofs.Basics.{clash}
use Rattle.forest.specs.Lent.{Room, Result, leaves_work, worked, refuse, accept, when, naming, first, answered}
use Rattle.forest.specs.Lists.{has}
use Rattle.forest.specs.declared.Reply.{Reply}
use Rattle.forest.specs.declared.Reply.TheVariants.{Accepted}

-- every refusal of the list leaves the work room as it is, or none does
abbrev pub Leaving : Bool → List (Option Reply) → Type 0
Leaving b os = (r : Reply) → first os ≡ Some r → leaves_work r ≡ b

pub leaving_nil : (b : Bool) → Leaving b []
unfolding first
leaving_nil b r e = absurd (clash cc)

pub leaving_when : (b c : Bool) (x : Reply) (os : List (Option Reply)) → leaves_work x ≡ b → Leaving b os → Leaving b (when c x ∷ os)
unfolding first when
leaving_when b true x os h l r e = let q : x ≡ r = cc in ap leaves_work (sym q) ∙ h
leaving_when b false x os h l r e = l r e

pub leaving_naming : {A : Type 0} (b : Bool) (f : A → Reply) (o : Option A) (os : List (Option Reply)) → ((a : A) → leaves_work (f a) ≡ b) → Leaving b os → Leaving b (naming f o ∷ os)
unfolding first naming
leaving_naming b f None os h l r e = l r e
leaving_naming b f (Some a) os h l r e = let q : f a ≡ r = cc in ap leaves_work (sym q) ∙ h a

pub accepted_clears : (n k : ℕ) (w : List ℕ) → worked (Accepted n k) w ≡ replicate (length w) 0
unfolding worked leaves_work has
accepted_clears n k w = refl

-- what follows a refusal decides nothing
pub first_stops : (os ps : List (Option Reply)) (r : Reply) → first os ≡ Some r → first (os ++ ps) ≡ Some r
unfolding first
first_stops [] ps r e = absurd (clash cc)
first_stops (None ∷ os) ps r e = first_stops os ps r e
first_stops (Some x ∷ os) ps r e = e

pub refused_is : (m : Room) (os : List (Option Reply)) (t : Result) (r : Reply) → first os ≡ Some r → answered m os t ≡ refuse m r
unfolding answered
refused_is m os t r e = rw (e, answered)

pub accepted_is : (m : Room) (os : List (Option Reply)) (t : Result) → first os ≡ None → answered m os t ≡ accept m t
unfolding answered
accepted_is m os t e = rw (e, answered)
