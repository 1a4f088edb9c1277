use Rattle.std.proofs.Common.{List, ap, subst}
use Rattle.std.specs.Option.{option_map}
use Rattle.std.specs.Arc.{arc_value}
use Rattle.dname.specs.Name.{Label}
use Rattle.cache_meaning.specs.Lent.{parameters_by}
use Rattle.cache_meaning.specs.Zones.{as_nsec3_at}
use Rattle.zone_chains.specs.Zone.{OneChain, OneZone, IsChosen, records_in}
use Rattle.zone_chains.proofs.ChosenLemmas.{chosen_in_older}
use Rattle.zone_chains.proofs.zone_records.ZoneRecords.nsec3_at.Goals as goal

pub returns-in-None-clause-record : goal.returns-in-None-clause-record
returns-in-None-clause-record c =
    let choose = λ (zone : List Label). as_nsec3_at zone (parameters_by c.args.salt.now c.args.iterations) c.args.hash.now in
    subst (λ (v : OneZone). IsChosen (choose v.apex) (records_in v) (option_map (λ found. found.0.now) c.nsec3_at-in-None.result)) c.self.view_is
    (rw c.in-Two.is (chosen_in_older choose c.self.inside.apex (arc_value c.in-Two.newer) (arc_value c.in-Two.older)
    (option_map (λ found. found.0.now) c.nsec3_at-in-Two.result) (option_map (λ found. found.0.now) c.nsec3_at-in-None.result)
    (rw c.in-Two.is at c.self.invariant)
    (subst (λ (v : OneChain). IsChosen (choose v.chain.zone) v.records (option_map (λ found. found.0.now) c.nsec3_at-in-Two.result)) c.deref-in-Two.ensures c.nsec3_at-in-Two.ensures.record)
    (ap (option_map (λ found. found.0.now)) c.in-None.is)
    (subst (λ (v : OneChain). IsChosen (choose v.chain.zone) v.records (option_map (λ found. found.0.now) c.nsec3_at-in-None.result)) c.deref-in-None.ensures c.nsec3_at-in-None.ensures.record)))
