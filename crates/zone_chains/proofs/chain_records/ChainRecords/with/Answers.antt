use Rattle.std.proofs.Common.{◌≡◌, not, Some, subst}
use Rattle.cache_meaning.specs.Held.{chain_of, displaces}
use Rattle.range_index.specs.Arcs.{FailInRuns}
use Rattle.zone_chains.specs.Zone.{OneChain}
use Rattle.zone_chains.specs.Spans.{chain_by}
use Rattle.zone_chains.proofs.JoinedLemmas.{chain_by-with}
use Rattle.zone_chains.proofs.ComeLemmas.{met_at}
use Rattle.zone_chains.proofs.chain_records.ChainRecords.with.Goals as goal

pub invariant_of-made : goal.invariant_of-made
invariant_of-made c = chain_by-with _ _ _ _ _ _ c.self.view_is c.self.invariant c.requires c.copy.ensures c.in_ok-spans.ensures.kind c.in_ok-spans.ensures.records

pub returns-clause-met : goal.returns-clause-met
returns-clause-met c =
    let new = c.args.item.value in
    let met = c.in_ok-spans.met in
    subst (λ (v : OneChain). chain_of new ≡ Some v.chain → FailInRuns (λ old. not (displaces new old)) v.records met.from met.to met.last) c.self.view_is
    (λ of_it. met_at (chain_by c.self.inside.zone c.self.inside.spans) c.self.invariant new of_it met.from met.to met.last c.in_ok-spans.ensures.met) c.requires
