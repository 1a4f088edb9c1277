use Rattle.std.proofs.Common.{◌≡◌, All, length}
use Rattle.cache_versions.specs.Rows.{AreNumbered}
use Rattle.cache_versions.specs.Shares.{IsNoteOf, IsOf}
use Rattle.cache_versions.proofs.tests.script.run.Given as goal

abbrev pub invariant-loop-step : goal.invariant-loop-step
invariant-loop-step g l =
    All (IsOf l.shared) l.seats.items × AreNumbered l.seats.items × (length l.seats.items ≡ 3) × All (IsNoteOf l.shared) l.notes.items
