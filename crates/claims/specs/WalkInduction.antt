-- Induction over a walk that goes to its end.
-- Assumes nothing.
use Prim.Native.Nat.{ℕ, zero, suc}
use Rattle.std.specs.Prelude.{◌≡◌, Bool, Option, Some, None}
use Rattle.std.proofs.Math.Path.{refl}
use Rattle.std.proofs.Common.{sym}
use mathlib.Core.List.{List, [], ◌∷◌, Memᴰ}
use Rattle.record.specs.declared.Node.{Node}
use Rattle.record.proofs.Basics.{clash}
use Rattle.forest.specs.Graph.{next}
use Rattle.forest.specs.Lists.{has}
use Rattle.forest.specs.Walk.{State, start, Walked, going, cycle, deep, id_in, Mark, finished, opened, unseen, marked, mark, finish, onward, each, enter, visit, walk}
use Rattle.claims.specs.Searches.{not_in}
use Rattle.claims.specs.Walks.{unseen_has, finished_some}

unseen_none : (o : Option ℕ) (b : Bool) → marked o b ≡ unseen → o ≡ None
unfolding marked
unseen_none (Some i) b e = cc
unseen_none None b e = refl

-- a walk that goes on did both of its parts
pub onward_going : (w : Walked) (f : State → Walked) (u : State) → onward w f ≡ going u → (t : State) × (w ≡ going t) × (f t ≡ going u)
unfolding onward
onward_going (going t) f u e = (t, refl, e)
onward_going (cycle p) f u e = absurd (clash (cc))
onward_going (deep p) f u e = absurd (clash (cc))

module _ (g : List Node) (P : List ℕ → ℕ → State → State → Type 0) (Ps : List ℕ → List ℕ → State → State → Type 0)
    (over : (path : List ℕ) (p : ℕ) (s : State) (i : ℕ) → id_in s.done p ≡ Some i → P path p s s)
    (nil : (path : List ℕ) (s : State) → Ps path [] s s)
    (cons : (path : List ℕ) (p : ℕ) (ps : List ℕ) (s t u : State) → P path p s t → Ps path ps t u → Ps path (p ∷ ps) s u)
    (opening : (path : List ℕ) (p : ℕ) (s t : State) → ¬ Memᴰ p path → id_in s.done p ≡ None → Ps (p ∷ path) (next g p) s t → P path p s (finish g p t)) where
  each_ind : (f : ℕ → State → Walked) (path : List ℕ) → ((c : ℕ) (s t : State) → f c s ≡ going t → P path c s t) → (ps : List ℕ) (s u : State) → each f ps s ≡ going u → Ps path ps s u
  unfolding each
  each_ind f path h [] s u e = let q : s ≡ u = cc in rw (sym q) (nil path s)
  each_ind f path h (p ∷ ps) s u e = go (onward_going (f p s) (λ t. each f ps t) u e) (each_ind f path h ps)
    where
      go : (t : State) × (f p s ≡ going t) × (each f ps t ≡ going u) → ((t v : State) → each f ps t ≡ going v → Ps path ps t v) → Ps path (p ∷ ps) s u
      go (t, a, b) ih = cons path p ps s t u (h p s t a) (ih t u b)

  pub visit_ind : (d : ℕ) (path : List ℕ) (p : ℕ) (s t : State) → visit g d path p s ≡ going t → P path p s t
  unfolding visit mark enter
  visit_ind zero path p s t e = go (mark path s p) refl e
    where
      go : (a : Mark) → mark path s p ≡ a → enter a p s (λ u. deep p) ≡ going t → P path p s t
      go finished m h = let q : s ≡ t = cc in let (i, k) = finished_some (id_in s.done p) (has p path) m in rw (sym q) (over path p s i k)
      go opened m h = absurd (clash (cc))
      go unseen m h = absurd (clash (cc))
  visit_ind (suc d) path p s t e = go (mark path s p) refl e (each_ind (visit g d (p ∷ path)) (p ∷ path) (visit_ind d (p ∷ path)) (next g p))
    where
      last : (u : State) × (each (visit g d (p ∷ path)) (next g p) s ≡ going u) × (going (finish g p u) ≡ going t) → mark path s p ≡ unseen
          → ((s u : State) → each (visit g d (p ∷ path)) (next g p) s ≡ going u → Ps (p ∷ path) (next g p) s u) → P path p s t
      last (u, a, b) m ih =
          let q : finish g p u ≡ t = cc in
          rw (sym q) (opening path p s u (not_in p path (unseen_has (id_in s.done p) (has p path) m)) (unseen_none (id_in s.done p) (has p path) m) (ih s u a))

      go : (a : Mark) → mark path s p ≡ a → enter a p s (λ u. onward (each (visit g d (p ∷ path)) (next g p) u) (λ v. going (finish g p v))) ≡ going t
          → ((s u : State) → each (visit g d (p ∷ path)) (next g p) s ≡ going u → Ps (p ∷ path) (next g p) s u) → P path p s t
      go finished m h ih = let q : s ≡ t = cc in let (i, k) = finished_some (id_in s.done p) (has p path) m in rw (sym q) (over path p s i k)
      go opened m h ih = absurd (clash (cc))
      go unseen m h ih = last (onward_going (each (visit g d (p ∷ path)) (next g p) s) (λ v. going (finish g p v)) t h) m ih

  pub walk_ind : (limit : ℕ) (roots : List ℕ) (t : State) → walk g limit roots ≡ going t → Ps [] roots start t
  unfolding walk
  walk_ind limit roots t e = each_ind (visit g limit []) [] (visit_ind limit []) roots start t e
