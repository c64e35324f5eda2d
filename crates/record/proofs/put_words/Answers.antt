use Prim.Native.Nat.{◌<◌}
use mathlib.Core.Path.{◌≡◌, sym}
use native.Mathlib.Omega.{arith}
use lib.ListN.{length, get_or}
use Rattle.std.specs.Prelude.{map}
use Rattle.std.proofs.lemmas.List.{length-map, get_or-map}
use Rattle.record.proofs.Puts.{putting_step, putting_end}
use Rattle.record.proofs.put_words.Goals as goal

pub loop-i-preserved : goal.loop-i-preserved
loop-i-preserved g c =
    let l = c.loop-i in
    let f = g.T.Word.value in
    let d = c.args.d in
    let h : l.i < length d = omega arith in
    let e : f (get_or d l.i c.x-item.result) ≡ get_or (map f d) l.i 0 = sym (get_or-map f d l.i c.x-item.result 0 h) in
    putting_step l.invariant (simp length-map h) (rw (c.WIDTH.ensures, e) at c.put.ensures)

pub returns : goal.returns
returns g c = putting_end c.loop-i.invariant (simp length-map (omega arith))
