use Rattle.std.proofs.Common.{◌≡◌, length, take}
use Rattle.intake.specs.Pile.{HasPlaces}
use Rattle.intake.proofs.table.places_of.Given as goal

abbrev pub invariant-loop-at : goal.invariant-loop-at
invariant-loop-at l = record {
  held : HasPlaces l.places (take l.at l.piles);
  end : l.at-end ≡ length l.piles;
}
