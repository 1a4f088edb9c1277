use Rattle.std.proofs.Common.{◌≡◌, sym, ◌∙◌, ap, subst}
use Rattle.std.specs.Option.{option_map}
use Rattle.cache_meaning.specs.Lent.{parameters_by}
use Rattle.cache_meaning.specs.Zones.{as_nsec3_at}
use Rattle.zone_chains.specs.Zone.{OneChain, IsChosen}
use Rattle.cache_meaning.proofs.ChainLemmas.{parameters_equal}
use Rattle.zone_chains.proofs.ChosenLemmas.{nsec3_chosen}
use Rattle.zone_chains.proofs.chain_records.ChainRecords.nsec3_at.Goals as goal

pub returns-in-Nsec3-clause-record : goal.returns-in-Nsec3-clause-record
returns-in-Nsec3-clause-record c =
    let same : parameters_by c.in-Nsec3.its_salt c.in-Nsec3.its_iterations ≡ parameters_by c.args.salt.now c.args.iterations =
    ap (λ salt. parameters_by salt c.in-Nsec3.its_iterations) (sym c.as_slice.ensures) ∙ parameters_equal _ _ (sym c.are_same.ensures ∙ c.if-are_same.true) in
    subst (λ (v : OneChain). IsChosen (as_nsec3_at v.chain.zone (parameters_by c.args.salt.now c.args.iterations) c.args.hash.now) v.records (option_map (λ found. found.0.now) c.nsec3_in.result)) c.self.view_is
    (rw c.in-Nsec3.is (nsec3_chosen c.self.inside.zone (parameters_by c.args.salt.now c.args.iterations) c.args.hash.now c.in-Nsec3.arcs (rw (c.in-Nsec3.is, same) at c.self.invariant.of_chain) (λ found. found.0.now) c.nsec3_in.result c.nsec3_in.ensures.record))
