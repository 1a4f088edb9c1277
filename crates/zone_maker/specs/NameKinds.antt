-- No public clause cites this module. What a kind of the code is among those of the made zone.
use Rattle.zone_maker.specs.Made as made
use Rattle.zone_maker.specs.declared.name_kind.NameKind.{NameKind}
use Rattle.zone_maker.specs.declared.name_kind.NameKind.TheVariants as coded

abbrev pub kind_of : NameKind → made.NameKind
kind_of coded.Host = made.Host
kind_of coded.Above = made.Above
kind_of coded.Cut = made.Cut
kind_of coded.Wild = made.Wild
