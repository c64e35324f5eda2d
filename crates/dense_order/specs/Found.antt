-- What a check answers where a definition has an option.
-- Assumes nothing: these are definitions.
use Rattle.std.specs.Prelude.{Option, Some, None, Result, Ok, Err}
use Rattle.forest.specs.declared.Reply.{Reply}

-- something, or the refusal that keeps it from being had
abbrev pub Checked : Type 0 → Type 0
Checked A = Result A Reply

-- a refusal, if there is one
unfoldable pub check_of : Option Reply → Checked Unit
check_of None = Ok tt
check_of (Some r) = Err r
