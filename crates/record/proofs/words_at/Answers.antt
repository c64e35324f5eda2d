use mathlib.Core.Path.{◌≡◌, ap}
use Prim.Native.Nat.{ℕ, ◌+◌, ◌*◌}
use Rattle.std.proofs.lemmas.List.{map-set}
use Rattle.record.proofs.Readings.{reading_step, reading_end}
use Rattle.record.proofs.words_at.Goals as goal

pub loop-i-preserved : goal.loop-i-preserved
loop-i-preserved g c =
    let l = c.loop-i in
    let p : c.args.at + c.WIDTH.result * l.i ≡ c.args.at + g.T.Word.WIDTH * l.i = ap (λ (w : ℕ). c.args.at + w * l.i) c.WIDTH.ensures in
    rw (map-set g.T.Word.value l.x-items l.i c.at.result)
    (reading_step _ _ _ _ _ l.i l.invariant _ _ c.loop-i-test.true p c.at.ensures)

pub returns : goal.returns
returns g c = reading_end _ _ _ _ _ c.loop-i.i c.loop-i.invariant c.loop-i-test.false
