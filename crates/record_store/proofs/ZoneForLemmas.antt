-- The zone that a record is put in.
use Rattle.std.proofs.Common.{◌≡◌, ◌≤◌, List, [], length, filter, Contains, sym, ◌∙◌, ap, subst, arith}
use Rattle.std.specs.List.{AllPairs}
use Rattle.std.proofs.lemmas.List.{length-map}
use Rattle.facts.proofs.Lists.{nothing_in}
use Rattle.dname.specs.Name.{Label}
use Rattle.denial_records.specs.declared.record.Record.{Record}
use Rattle.denial_records.specs.declared.record.Record.TheVariants.{Set, Nsec, Nsec3}
use Rattle.cache_meaning.specs.Held.{Held, zone_of}
use Rattle.held_laws.proofs.KeyOrderLemmas.{in_zone}
use Rattle.ordered_list.specs.Order.{IsInOrder}
use Rattle.zone_chains.specs.Zone.{OneChain, OneZone, IsDenialOf}
use Rattle.record_store.specs.Holding.{chains_of_zones, held_in, IsTied}
use Rattle.record_store.specs.Putting.{chains_for, IsZoneFor}
use Rattle.record_store.specs.Ranks.{apex_cmp}
use Rattle.record_store.proofs.PutLemmas.{Differ}
use Rattle.record_store.proofs.ZoneChainLemmas.{none_of_zones, one_of_zones}

pub denial_zone : (apex : List Label) (item : Record) → IsDenialOf apex item → zone_of item ≡ apex
denial_zone apex (Set set) denial = absurd denial
denial_zone apex (Nsec nsec) denial = denial
denial_zone apex (Nsec3 nsec3) denial = denial

module _ (goings sets : List Record) (zones : List OneZone) (tied : IsTied goings sets zones) (item : Record) where
  pub found_for : IsInOrder apex_cmp zones → (zone : OneZone) → Contains zones zone → zone.apex ≡ zone_of item → IsZoneFor (held_in goings zones) item zone
  found_for order zone has apex = record {
    apex = apex;
    whole = tied.whole zone has;
    its = tied.zones_are zone has;
    chains = sym (one_of_zones zones order tied.whole zone has) ∙ ap (λ name. filter (in_zone name) (chains_of_zones zones)) apex;
    used = tied.chains_used zone has;
  }

  bare : (apex : List Label) → apex ≡ zone_of item → ((zone : OneZone) → Contains zones zone → zone.apex ≡ zone_of item → ⊥) → IsZoneFor (held_in goings zones) item (record { apex = apex; chains = [] })
  bare apex same none = record {
    apex = same;
    whole = record {
      two = omega arith;
      once = λ i j d below within. absurd (omega arith);
      here = λ i d within. absurd (omega arith);
      of_chain = λ i d within. absurd (omega arith);
      apart = λ i j d below within. absurd (omega arith);
    };
    its = λ r. (
      λ has. absurd (nothing_in r has),
      λ h. (let listed = tied.zone_listed r h.0 in absurd (none listed.0 listed.1 (listed.2 ∙ (denial_zone apex r h.1 ∙ same)))),
    );
    chains = sym (none_of_zones (zone_of item) zones tied.whole none);
    used = λ i d within. absurd (omega arith);
  }

  pub none_for : (zone : OneZone) → zone.apex ≡ zone_of item → zone.chains ≡ [] → ((each : OneZone) → Contains zones each → each.apex ≡ zone_of item → ⊥) → IsZoneFor (held_in goings zones) item zone
  none_for zone apex is none = subst (λ (l : List OneChain). IsZoneFor (held_in goings zones) item (record { apex = zone.apex; chains = l })) (sym is) (bare zone.apex apex none)

-- it lists two chains at most, and each once
pub two_for : (held : Held) (item : Record) (zone : OneZone) → IsZoneFor held item zone → length (chains_for held item) ≤ 2
two_for held item zone is = subst (λ l. length l ≤ 2) is.chains (omega (arith, is.whole.two, length-map zone.chains (λ (each : OneChain). each.chain)))

pub once_for : (held : Held) (item : Record) (zone : OneZone) → IsZoneFor held item zone → AllPairs Differ (chains_for held item)
once_for held item zone is = subst (AllPairs Differ) is.chains is.whole.once
