-- Document 01, 'Reply numbers': the number and the two values of each reply.
-- Assumes nothing: these are definitions.
use Rattle.std.specs.Prelude.{ℕ}
use Rattle.forest.specs.declared.Told.{Told}
use Rattle.forest.specs.declared.Reply.{Reply}
use Rattle.forest.specs.declared.Reply.TheVariants.{Accepted, BadBuffers, TooMany, BadRecord, RootRange, DuplicateExternal, ChildRange, Cycle, TooDeep, NoRoom, ClassOrder, DigestOrder, ForwardReference, BadLimit}

abbrev pub row : ℕ → ℕ → ℕ → Told
row number first second = record { number = number; first = first; second = second }

abbrev pub told : Reply → Told
told (Accepted nodes roots) = row 0 nodes roots
told (BadBuffers buffer) = row 1 buffer 0
told TooMany = row 2 0 0
told (BadRecord position) = row 3 position 0
told (RootRange place) = row 4 place 0
told (DuplicateExternal node) = row 5 node 0
told (ChildRange position child) = row 6 position child
told (Cycle position) = row 7 position 0
told (TooDeep position) = row 8 position 0
told (NoRoom nodes roots) = row 9 nodes roots
told (ClassOrder node) = row 10 node 0
told (DigestOrder node) = row 11 node 0
told (ForwardReference node child) = row 12 node child
told BadLimit = row 13 0 0
