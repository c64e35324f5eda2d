use native.Mathlib.Omega.{arith}
use mathlib.Core.Path.{refl}
use lib.ListN.{length-append, length-take, length-drop}
use Rattle.merger.proofs.Cutting.{Cut}
use Rattle.merger.proofs.Settles.{sourced, lined, movable, rooted, settled}
use Rattle.merger.proofs.Sourcing.{few}
use Rattle.merger.proofs.result.settle.Goals as goal
use Rattle.merger.proofs.result.settle.Goals.{After-split_at_mut-listed}

cut : (c : After-split_at_mut-listed) → Cut c.args.work.now c.split_at_mut-states.result.0.now c.split_at_mut-walk.result.0.now c.split_at_mut-spare.result.0.now c.split_at_mut-order.result.0.now c.split_at_mut-places.result.0.now c.split_at_mut-listed.result.0.now c.split_at_mut-listed.result.1.now c.args.n
cut c = record {
  whole = rw (c.split_at_mut-states.ensures.value, c.split_at_mut-walk.ensures.value, c.split_at_mut-spare.ensures.value, c.split_at_mut-order.ensures.value, c.split_at_mut-places.ensures.value, c.split_at_mut-listed.ensures.value) refl;
  states = omega (arith, c.split_at_mut-states.ensures.front_len);
  walk = omega (arith, c.split_at_mut-walk.ensures.front_len);
  spare = c.split_at_mut-spare.ensures.front_len;
  order = c.split_at_mut-order.ensures.front_len;
  places = c.split_at_mut-places.ensures.front_len;
  listed = c.split_at_mut-listed.ensures.front_len;
}

pub slice_bounds-order-end : goal.slice_bounds-order-end
slice_bounds-order-end c = let f = few c.requires.over.ended in omega (arith, c.split_at_mut-order.ensures.front_len)

pub slice_bounds-order-end-2 : goal.slice_bounds-order-end-2
slice_bounds-order-end-2 c = let f = few c.requires.over.ended in simp length-take (omega (arith, c.split_at_mut-order.ensures.front_len))

pub slice_bounds-arrange-end : goal.slice_bounds-arrange-end
slice_bounds-arrange-end c = let f = few c.requires.over.ended in omega (arith, c.split_at_mut-walk.ensures.front_len)

pub slice_bounds-arrange-end-2 : goal.slice_bounds-arrange-end-2
slice_bounds-arrange-end-2 c = let f = few c.requires.over.ended in simp length-take (omega (arith, c.split_at_mut-walk.ensures.front_len))

pub arrange-requires : goal.arrange-requires
arrange-requires c = sourced c.requires.over.ended (cut (goal.at.arrange-requires c).After-split_at_mut-listed)

pub mark_places-requires : goal.mark_places-requires
mark_places-requires c = lined c.requires.over.ended (cut (goal.at.mark_places-requires c).After-split_at_mut-listed) c.arrange.ensures

pub carry-requires : goal.carry-requires
carry-requires c = movable c.requires.over.ended (cut (goal.at.carry-requires c).After-split_at_mut-listed) c.arrange.ensures _ (omega (arith, c.split_at_mut-places.ensures.front_len)) c.mark_places.ensures

pub list_roots-requires : goal.list_roots-requires
list_roots-requires c =
    rooted c.requires.over.ended (cut (goal.at.list_roots-requires c).After-split_at_mut-listed) c.arrange.ensures _ (omega (arith, c.split_at_mut-places.ensures.front_len)) c.mark_places.ensures c.carry.ensures _ _ c.requires.roots_len c.requires.over.roots

pub returns : goal.returns
returns c =
    let before = cut (goal.at.returns c).After-split_at_mut-listed in
    λ g t h f.
    settled h before c.arrange.ensures _ (omega (arith, c.split_at_mut-places.ensures.front_len)) c.mark_places.ensures c.carry.ensures _ _ c.requires.roots_len f _
    (record {
      whole = refl;
      states = omega (arith, before.states);
      walk = before.walk;
      spare = omega (arith, before.spare);
      order = (let k = few h in simp (length-append, length-drop) (omega (arith, before.order, length-take c.args.m c.split_at_mut-order.result.0.now)));
      places = omega (arith, before.places);
      listed = omega (arith, before.listed);
    })
    c.list_roots.auto.starts
    c.list_roots.ensures
