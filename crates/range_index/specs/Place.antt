-- Where in its arc a key lies.
use Rattle.std.specs.declared.cmp.Ordering.{Ordering}
use Rattle.std.specs.declared.cmp.Ordering.TheVariants.{Less, Equal, Greater}
use Rattle.range_index.specs.declared.place.Place.{Place}
use Rattle.range_index.specs.declared.place.Place.TheVariants.{Start, Inside}

-- by how the arc's start compares to the key
abbrev pub place_of : Ordering → Place
place_of Less = Inside
place_of Equal = Start
place_of Greater = Inside
