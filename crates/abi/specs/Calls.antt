-- What a caller gets: a reply as three numbers, and every buffer as the outcome has it.
-- Assumes nothing: these are definitions.
use Rattle.std.specs.Prelude.{ℕ, ◌≡◌}
use Rattle.forest.specs.Lent.{Room, Outcome}
use Rattle.forest.specs.Reply.{told}
use Rattle.forest.specs.declared.Reply.{Reply}

-- the reply's number and its two values
pub record Tells (reply : Reply) (number first second : ℕ) : Type 0 where
  pub number_is : number ≡ (told reply).number
  pub first_is : first ≡ (told reply).first
  pub second_is : second ≡ (told reply).second

-- the outcome's reply, and its room
pub record Leaves (o : Outcome) (number first second : ℕ) (room : Room) : Type 0 where
  pub tells : Tells o.reply number first second
  pub left : room ≡ o.room
