use Rattle.zone_chains.proofs.ComeLemmas.{CameTo, came_by, met_by}
use Rattle.zone_chains.proofs.ZoneLemmas.{is_one_zone}
use Rattle.zone_chains.proofs.zone_records.ZoneRecords.with.Goals as goal

came : (c : goal.After-copy) → CameTo c.args.self.now c.args.item.value c.copy.result c.in_ok-chains.chains
came c = came_by c.self.inside.apex c.copy.result c.self.inside.chains c.in_ok-chains.chains c.args.self.now c.args.item.value c.self.view_is c.self.invariant c.copy.ensures c.requires c.in_ok-chains.ensures.made

pub invariant_of-made : goal.invariant_of-made
invariant_of-made c = (came c).chains

pub returns-clause-chains : goal.returns-clause-chains
returns-clause-chains c = (came c).names

pub returns-clause-records : goal.returns-clause-records
returns-clause-records c = (came c).members

pub returns-clause-met : goal.returns-clause-met
returns-clause-met c =
    met_by (λ met. met.0.now) (λ met. met.1.from) (λ met. met.1.to) (λ met. met.1.last) c.self.inside.apex c.self.inside.chains c.args.self.now c.args.item.value c.self.view_is c.self.invariant c.requires
    c.in_ok-chains.met c.in_ok-chains.ensures.met

pub returns-clause-whole : goal.returns-clause-whole
returns-clause-whole c = is_one_zone _ (came c).chains
