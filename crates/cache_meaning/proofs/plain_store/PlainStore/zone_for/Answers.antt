use Rattle.std.proofs.Common.{sym, ap, ◌∙◌, Some}
use Rattle.std.specs.Option.{option_map}
use Rattle.cache_meaning.specs.Zones.{zone_in}
use Rattle.cache_meaning.proofs.HeldLemmas.{found_here}
use Rattle.cache_meaning.proofs.plain_store.PlainStore.zone_for.Goals as goal

pub returns-then-has_zone : goal.returns-then-has_zone
returns-then-has_zone c =
    ap Some c.zone_in.ensures
    ∙ ap (option_map (zone_in c.args.self.now)) (sym (c.loop-zone.invariant ∙ found_here _ c.loop-zone.zone (sym c.has_zone.ensures ∙ c.if-has_zone.true)))
