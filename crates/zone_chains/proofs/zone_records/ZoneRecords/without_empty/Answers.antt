use Rattle.std.proofs.Common.{List, sym, subst}
use Rattle.dname.specs.Name.{Label}
use Rattle.zone_chains.specs.Views.{AreChains}
use Rattle.zone_chains.specs.Chains.{chains_by}
use Rattle.zone_chains.proofs.ZoneLemmas.{is_one_zone, held_chains}
use Rattle.zone_chains.proofs.zone_records.ZoneRecords.without_empty.Goals as goal

pub returns-clause-whole : goal.returns-clause-whole
returns-clause-whole c =
    is_one_zone _ (subst (λ (a : List Label). AreChains a (chains_by c.in_ok-chains.chains)) (sym c.copy.ensures)
    (subst (AreChains c.self.inside.apex) (sym c.in_ok-chains.ensures) (held_chains c.self.inside.apex (chains_by c.self.inside.chains) c.self.invariant)))
