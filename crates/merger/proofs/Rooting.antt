-- Taking the roots of all forests one after the other.
-- Assumes nothing.
use Rattle.std.specs.Prelude.{Result, Ok, Err}
use Prim.Native.Nat.{ℕ, ◌+◌, ◌<◌, ◌≤◌}
use mathlib.Core.Path.{◌≡◌, refl, sym, ◌∙◌, ap}
use mathlib.Core.List.{List, []}
use native.Mathlib.Omega.{arith}
use lib.ListN.{length, get_or}
use Rattle.record.specs.declared.Node.{Node}
use Rattle.record.proofs.Basics.{clash}
use Rattle.forest.specs.Lists.{has}
use Rattle.forest.specs.Walk.{State, start, Walked, going, cycle, deep, id_in, onward, each, visit, walk}
use Rattle.forest.specs.declared.Reply.TheVariants.{Cycle, TooDeep}
use Rattle.claims.specs.Searches.{get_d_mem}
use Rattle.merger.specs.Table.{ToRoot, AtRoot, starts}
use Rattle.merger.specs.Walking.{Charted, word, Holds, Stands, went_of, come_of, told_by, Kept, Walks, Comes, ComesTo, Begun}
use Rattle.merger.specs.declared.merging.Walk.{Walk}
use Rattle.merger.specs.declared.table.Cursor.{Cursor}
use Rattle.merger.proofs.Cursors.{toward_start, toward_next, root_position, starts_long}
use Rattle.merger.proofs.Fine.{fine_start}
use Rattle.merger.proofs.Holding.{kept_same, kept_again, walks_kept}
use Rattle.merger.proofs.Going.{Gone, gone_start, gone_done, gone_step, gone_stops}

-- before the first root
stands_start : {t s rs b f v u : List ℕ} {g : List Node} → Begun t s rs b f v u → Charted s b f g → Stands s b f v u 0 g [] start
unfolding start id_in has word
stands_start {b = b} {g = g} a c = record {
  charted = c;
  fine = fine_start g (length b) c.mapped.inside;
  holds = record { long = a.tall; wide = a.wide; states = λ p h. a.blank p; sources = λ k h. absurd (omega arith) };
  counted = refl;
}

-- from the walk x on, the first k roots are taken
pub record Rooting (t rs : List ℕ) (x y : Walk) (d : ℕ) (c : Cursor) (m k : ℕ) : Type 0 where
  pub kept : Kept x y
  pub within : k ≤ length rs
  pub toward : ToRoot t c k
  pub gone : (g : List Node) → Charted x.nodes.now x.bases.now x.shelf.now g → Gone x.nodes.now x.bases.now x.shelf.now y.states.now y.sources.now d m k g [] (starts t rs) start

-- a walk that begins
abbrev pub BegunAt : List ℕ → List ℕ → Walk → Type 0
BegunAt t rs x = Begun t x.nodes.now rs x.bases.now x.shelf.now x.states.now x.sources.now

pub rooting_start : {t rs : List ℕ} {x : Walk} (d : ℕ) (c : Cursor) → c ≡ record { rows = 0; base = 0; nodes = 0; roots = 0 } → BegunAt t rs x → Rooting t rs x x d c 0 0
rooting_start {t} {rs} {x} d c e b = record { kept = kept_same x; within = omega arith; toward = rw e (toward_start t); gone = λ g q. gone_start d (starts t rs) (stands_start b q) }

onward_same : (o : Walked) → onward o (λ u. going u) ≡ o
unfolding onward
onward_same (going u) = refl
onward_same (cycle p) = refl
onward_same (deep p) = refl

module _ {t rs : List ℕ} {x y : Walk} {d : ℕ} {c : Cursor} {m k : ℕ} (b : BegunAt t rs x) (a : Rooting t rs x y d c m k) where
  -- the next root
  module _ (less : k < length rs) {c' : Cursor} (at : AtRoot t c' k) (p : ℕ) (is : p ≡ c'.base + get_or rs k 0) where
    more : k < length (starts t rs)
    more = rw (starts_long t rs b.long) less

    root_at : p ≡ get_or (starts t rs) k 0
    root_at = is ∙ sym (root_position t rs c' k at b.long)

    pub root_low : p < length x.bases.now
    root_low = b.near p (rw root_at (get_d_mem (starts t rs) k 0 more))

    module _ {z : Walk} {r : Result ℕ ℕ} (on : Kept y z) where
      pub root_stops : {g : List Node} (q : Charted x.nodes.now x.bases.now x.shelf.now g) → ComesTo g y z [] (visit g d [] p (a.gone g q).state) r → ((j : ℕ) → r ≡ Ok j → ⊥) → ComesTo g x z [] (walk g d (starts t rs)) r
      unfolding walk
      root_stops {g} q o off =
          let (w, told, v) = gone_stops (a.gone g q) more p root_at root_low (walks_kept a.kept o) off (λ u. going u) in
          let e : onward (each (visit g d []) (starts t rs) start) (λ u. going u) ≡ each (visit g d []) (starts t rs) start = onward_same _ in
          record { answer = w ∙ ap come_of e; told = rw (← e) told; came = λ u i. absurd (v u (e ∙ i)) }

      pub rooting_step : (j : ℕ) → r ≡ Ok j → ((g : List Node) (q : Charted x.nodes.now x.bases.now x.shelf.now g) → ComesTo g y z [] (visit g d [] p (a.gone g q).state) r) → Rooting t rs x z d c' j (k + 1)
      rooting_step j e o = record {
        kept = kept_again a.kept on;
        within = omega arith;
        toward = toward_next t c' k at;
        gone = λ g q. gone_step (a.gone g q) more p root_at root_low (walks_kept a.kept (o g q)) j e;
      }

  -- all roots are taken
  pub rooting_ends : length rs ≤ k → {g : List Node} → Charted x.nodes.now x.bases.now x.shelf.now g → ComesTo g x y [] (walk g d (starts t rs)) (Ok m)
  unfolding walk come_of told_by
  rooting_ends l {g} q =
      let v = a.gone g q in
      let e : each (visit g d []) (starts t rs) start ≡ going v.state = gone_done v (rw (starts_long t rs b.long) l) in
      rw e (record { answer = ap (λ (i : ℕ). Ok i) v.stands.counted; told = tt; came = λ u w. from v u w })
    where
      from : (v : Gone x.nodes.now x.bases.now x.shelf.now y.states.now y.sources.now d m k g [] (starts t rs) start) (u : State) → going v.state ≡ going u → Holds g y.states.now y.sources.now (length x.bases.now) [] u
      from v u w = let o : v.state ≡ u = cc in rw (sym o) v.stands.holds

-- THE ANSWER --------------------------------------------------------------------------------------

-- a walk that goes on, and one that stops at an open node or at an unseen one
module _ {g : List Node} {v u : List ℕ} {n : ℕ} {path : List ℕ} where
  pub says_going : (o : Walked) (r : Result ℕ ℕ) (m : ℕ) → Comes g v u n path o r → r ≡ Ok m → Walks g v u n path o (Ok m)
  unfolding come_of went_of
  says_going (going t) r m k e = let z : Ok m ≡ Ok (length t.merged) = sym e ∙ k.answer in let y : m ≡ length t.merged = cc in record { answer = ap (λ (i : ℕ). Ok i) y; came = k.came }
  says_going (cycle q) r m k e = let z : Ok m ≡ Err q = sym e ∙ k.answer in absurd (clash cc)
  says_going (deep q) r m k e = let z : Ok m ≡ Err q = sym e ∙ k.answer in absurd (clash cc)

  pub stops_within : (o : Walked) (r : Result ℕ ℕ) (p : ℕ) → Comes g v u n path o r → r ≡ Err p → (p < n) × (p < length v)
  unfolding come_of told_by
  stops_within (going t) r p k e = let z : Err p ≡ Ok (length t.merged) = sym e ∙ k.answer in absurd (clash cc)
  stops_within (cycle q) r p k e = let z : Err p ≡ Err q = sym e ∙ k.answer in let y : p ≡ q = cc in rw y (k.told.0, k.told.1)
  stops_within (deep q) r p k e = let z : Err p ≡ Err q = sym e ∙ k.answer in let y : p ≡ q = cc in rw y (k.told.0, k.told.1)

  pub says_cycle : (o : Walked) (r : Result ℕ ℕ) (p : ℕ) → Comes g v u n path o r → r ≡ Err p → get_or v p 0 ≡ 1 → Walks g v u n path o (Err (Cycle p))
  unfolding come_of told_by went_of
  says_cycle (going t) r p k e w = let z : Err p ≡ Ok (length t.merged) = sym e ∙ k.answer in absurd (clash cc)
  says_cycle (cycle q) r p k e w = let z : Err p ≡ Err q = sym e ∙ k.answer in let y : p ≡ q = cc in record { answer = rw y refl; came = k.came }
  says_cycle (deep q) r p k e w = let z : Err p ≡ Err q = sym e ∙ k.answer in let y : p ≡ q = cc in absurd (clash (sym k.told.2 ∙ (rw y at w)))

  pub says_deep : (o : Walked) (r : Result ℕ ℕ) (p : ℕ) → Comes g v u n path o r → r ≡ Err p → (get_or v p 0 ≡ 1 → ⊥) → Walks g v u n path o (Err (TooDeep p))
  unfolding come_of told_by went_of
  says_deep (going t) r p k e w = let z : Err p ≡ Ok (length t.merged) = sym e ∙ k.answer in absurd (clash cc)
  says_deep (cycle q) r p k e w = let z : Err p ≡ Err q = sym e ∙ k.answer in let y : p ≡ q = cc in absurd (w (rw y k.told.2))
  says_deep (deep q) r p k e w = let z : Err p ≡ Err q = sym e ∙ k.answer in let y : p ≡ q = cc in record { answer = rw y refl; came = k.came }
