use mathlib.Core.Path.{◌≡◌, ◌∙◌, ap}
use Prim.Native.Nat.{ℕ, ◌+◌, ◌-◌}
use native.Mathlib.Omega.{arith}
use lib.ListN.{length, take, drop, replicate, length-take, length-drop, length-replicate}
use Rattle.room.proofs.Writes.{puts_mid}
use Rattle.room.proofs.clear_part.Goals as goal

pub returns : goal.returns
returns c =
    let a = c.args in
    let n = a.count in
    let w = a.work.now in
    let k : a.at + n - a.at ≡ n = omega arith in
    let m : length (take (a.at + n - a.at) (drop a.at w)) ≡ n = simp (length-take, length-drop) (omega arith) in
    let e : c.fill.new.self ≡ replicate n 0 = c.fill.ensures.after (λ y q. q) ∙ ap (λ (i : ℕ). replicate i 0) m in
    rw e (puts_mid (replicate n 0) w a.at n _ k (length-replicate n 0) c.requires)
