use Rattle.std.proofs.Common.{sym, subst}
use Rattle.cache_meaning.specs.Held.{Held}
use Rattle.cache_meaning.specs.Zones.{TwoChains}
use Rattle.cache_meaning.proofs.TwoChainsLemmas.{two_chains_after}
use Rattle.cache_meaning.proofs.plain_store.PlainStore.with_batch.Goals as goal

pub invariant_of-result : goal.invariant_of-result
invariant_of-result c = subst (λ (held : Held). TwoChains held) (sym c.in_ok-after.ensures) (two_chains_after c.self.inside.held c.args.batch.now c.self.invariant)
