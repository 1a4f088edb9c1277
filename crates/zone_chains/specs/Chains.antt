-- No public clause cites this module: what the code's values are, in the words of the definitions.
use Rattle.std.specs.Prelude.{List, [], ◌∷◌}
use Rattle.std.specs.Arc.{arc_value}
use Rattle.dname.specs.Name.{Label}
use Rattle.zone_chains.specs.Zone.{OneChain, OneZone}
use Rattle.zone_chains.specs.declared.zone_chains.ZoneChains.{ZoneChains}
use Rattle.zone_chains.specs.declared.zone_chains.ZoneChains.TheVariants.{Bare, One, Two}

abbrev pub chains_by : ZoneChains → List OneChain
chains_by Bare = []
chains_by (One only) = arc_value only ∷ []
chains_by (Two newer older) = arc_value newer ∷ arc_value older ∷ []

abbrev pub zone_by : List Label → ZoneChains → OneZone
zone_by apex chains = record { apex = apex; chains = chains_by chains }
