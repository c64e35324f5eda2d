-- What is told of an outcome.
-- Assumes nothing.
use Rattle.std.proofs.Common.{◌≡◌, ℕ, refl}
use Rattle.forest.specs.Lent.{Room, Outcome}
use Rattle.forest.specs.declared.Reply.{Reply}
use Rattle.abi.specs.Calls.{Tells, Leaves}

pub leaves : {o : Outcome} {reply : Reply} {room : Room} {number first second : ℕ} → o ≡ record { reply = reply; room = room } → Tells reply number first second → Leaves o number first second room
leaves {o} {reply} {room} e t = rw e (record { tells = t; left = refl })
