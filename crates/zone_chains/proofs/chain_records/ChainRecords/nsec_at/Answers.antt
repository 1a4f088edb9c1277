use Rattle.std.proofs.Common.{subst}
use Rattle.std.specs.Option.{option_map}
use Rattle.cache_meaning.specs.Zones.{as_nsec_at}
use Rattle.zone_chains.specs.Zone.{OneChain, IsChosen}
use Rattle.zone_chains.proofs.ChosenLemmas.{nsec_chosen}
use Rattle.zone_chains.proofs.chain_records.ChainRecords.nsec_at.Goals as goal

pub returns-in-Nsec-clause-record : goal.returns-in-Nsec-clause-record
returns-in-Nsec-clause-record c =
    subst (λ (v : OneChain). IsChosen (as_nsec_at v.chain.zone c.args.name.now) v.records (option_map (λ found. found.0.now) c.nsec_in.result)) c.self.view_is
    (rw c.in-Nsec.is (nsec_chosen c.self.inside.zone c.args.name.now c.in-Nsec.arcs (rw c.in-Nsec.is at c.self.invariant.of_chain) (λ found. found.0.now) c.nsec_in.result c.nsec_in.ensures.record))
