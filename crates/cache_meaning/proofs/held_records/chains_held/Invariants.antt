use Rattle.std.proofs.Common.{◌≡◌, ◌++◌, drop}
use Rattle.cache_meaning.specs.Held.{chains_held}
use Rattle.cache_meaning.specs.Views.{shared_records}
use Rattle.cache_meaning.proofs.held_records.chains_held.Given as goal

abbrev pub invariant-loop-chain : goal.invariant-loop-chain
invariant-loop-chain l =
    l.held.items ++ chains_held (shared_records l.records) (drop l.chain-index l.chains)
    ≡ chains_held (shared_records l.records) l.chains
