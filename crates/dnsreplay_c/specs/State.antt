-- What a handle stands for, by its fields.
use Rattle.std.specs.Prelude.{Bool, cond, Option, Some, None}
use Rattle.cache_meaning.specs.Held.{Held}

-- the records that an open one's snapshot holds; none where it is closed
abbrev pub state_at : Bool → Held → Option Held
state_at is_open held = cond is_open (Some held) None
