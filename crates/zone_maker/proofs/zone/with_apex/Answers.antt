use Rattle.std.proofs.Common.{ap, ◌∙◌}
use Rattle.dname.specs.Name.{wire_of}
use Rattle.zone_meaning.specs.Zone.{Zone}
use Rattle.zone_maker.proofs.ZoneLemmas.{servers_in, soa_is_fresh, both_in}
use Rattle.zone_maker.proofs.zone.with_apex.Goals as goal

pub put-requires-2-clause-fresh : goal.put-requires-2-clause-fresh
put-requires-2-clause-fresh c = soa_is_fresh _ _ c.put.new.zone.records
    (servers_in c.apex-2.result c.in_ok-servers.servers c.at-zone.result.records c.put.new.zone.records c.apex-2.ensures
    (c.in_ok-servers.ensures ∙ c.wire.ensures.spelled ∙ ap wire_of c.name_server.ensures) (ap (λ (z : Zone). z.records) c.at-zone.ensures) c.in_ok-put.ensures.records)

pub returns-clause-records : goal.returns-clause-records
returns-clause-records c seed = both_in seed c.apex-3.result c.in_ok-authority.authority c.put.new.zone.records c.put-2.new.zone.records c.apex-3.ensures c.in_ok-authority.ensures
    (servers_in c.apex-2.result c.in_ok-servers.servers c.at-zone.result.records c.put.new.zone.records c.apex-2.ensures
    (c.in_ok-servers.ensures ∙ c.wire.ensures.spelled ∙ ap wire_of c.name_server.ensures) (ap (λ (z : Zone). z.records) c.at-zone.ensures) c.in_ok-put.ensures.records)
    c.in_ok-put-2.ensures.records
