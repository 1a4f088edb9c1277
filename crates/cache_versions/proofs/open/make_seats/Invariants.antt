use Rattle.std.proofs.Common.{◌≡◌, ◌-◌, [], All, length}
use Rattle.left_right.specs.Sides.{view}
use Rattle.cache_versions.specs.Dealers.{HasPlaces, IsHandOf, table_of}
use Rattle.cache_versions.specs.Rows.{AreNumbered, IsMadeWith}
use Rattle.cache_versions.proofs.open.make_seats.Given as goal

abbrev pub invariant-loop-number : goal.invariant-loop-number
invariant-loop-number g l =
    (length l.made.items ≡ l.number) × AreNumbered l.made.items × All (IsMadeWith l.held.recorded (table_of l.dealer)) l.made.items
    × IsHandOf l.dealer l.all × HasPlaces (l.seats - l.number) [] l.all
    × (l.writer.desk.shown ≡ l.initial.writer.desk.shown) × (view l.writer.desk.place ≡ view l.initial.writer.desk.place)
