use Rattle.zone_chains.proofs.JoinedLemmas.{chain_by-without}
use Rattle.zone_chains.proofs.chain_records.ChainRecords.without.Goals as goal

pub invariant_of-result : goal.invariant_of-result
invariant_of-result c = chain_by-without _ _ _ _ _ c.self.invariant c.copy.ensures c.in_ok-spans.ensures.kind c.in_ok-spans.ensures.records
