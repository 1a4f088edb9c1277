use Rattle.std.proofs.Common.{◌∙◌, ap}
use Rattle.cache_meaning.specs.Held.{Held, key_cmp}
use Rattle.held_laws.proofs.SortLemmas.{sorted_members}
use Rattle.record_store.specs.Gauges.{zone_count}
use Rattle.record_store.proofs.GaugeLemmas.{zone_count_alike}
use Rattle.record_store.proofs.store.Store.zones.Goals as goal

pub returns : goal.returns
returns c =
    c.zones.ensures
    ∙ (zone_count_alike _ _ (sorted_members key_cmp c.self.inside.holding.records)
    ∙ ap (λ (h : Held). zone_count h.records) c.self.view_is)
