use Rattle.std.proofs.Common.{◌≡◌, ◌+◌, length}
use Rattle.record_store.specs.Holding.{chains_of_zones}
use Rattle.record_store.proofs.holding.Holding.chains.Given as goal

abbrev pub invariant-loop-zone : goal.invariant-loop-zone
invariant-loop-zone l = l.chains + length (chains_of_zones l.zone-iterator) ≡ length l.self.chains
