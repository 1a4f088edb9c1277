use Rattle.std.proofs.Common.{length, sym, ◌∙◌, ap, subst}
use Rattle.cache_meaning.specs.Held.{Held, key_cmp}
use Rattle.held_laws.specs.HeldLaws.{NoneDisplaces}
use Rattle.held_laws.proofs.OrderedLemmas.{apart_in_key_order}
use Rattle.held_laws.proofs.SortLemmas.{sorted_length}
use Rattle.record_store.proofs.store.Store.len.Goals as goal

pub returns-clause-value : goal.returns-clause-value
returns-clause-value c = c.len.ensures.value ∙ (sym (sorted_length key_cmp c.self.inside.holding.records) ∙ ap (λ (h : Held). length h.records) c.self.view_is)

pub returns-clause-apart : goal.returns-clause-apart
returns-clause-apart c = subst (λ (h : Held). NoneDisplaces h.records) c.self.view_is (apart_in_key_order c.self.inside.holding c.len.ensures.apart)
