-- What a handle stands for.
use Rattle.std.specs.Prelude.{Option}
use Rattle.cache_meaning.specs.Held.{Held}
use Rattle.dnsreplay_c.specs.State.{state_at}
use Rattle.dnsreplay_c.specs.declared.snapshot.Snapshot.{Snapshot}

-- the records that an open one's snapshot holds; none where it is closed
abbrev pub state_of : Snapshot → Option Held
state_of s = state_at s.is_open s.held
