use Rattle.std.proofs.Common.{length, sym, ◌∙◌, ap}
use Rattle.cache_meaning.specs.Held.{Held}
use Rattle.held_laws.specs.KeyOrder.{zone_cmp}
use Rattle.held_laws.proofs.SortLemmas.{sorted_length}
use Rattle.record_store.proofs.store.Store.chains.Goals as goal

pub returns : goal.returns
returns c = c.chains.ensures ∙ (sym (sorted_length zone_cmp c.self.inside.holding.chains) ∙ ap (λ (h : Held). length h.chains) c.self.view_is)
