use Rattle.std.proofs.Common.{◌∙◌, ap}
use Rattle.cache_meaning.specs.Held.{Held}
use Rattle.held_laws.specs.KeyOrder.{kept_after}
use Rattle.record_store.proofs.store.Store.with_batch.Goals as goal

pub returns : goal.returns
returns c = c.in_ok-after.ensures ∙ ap (λ (held : Held). kept_after held c.args.batch.now) c.self.view_is
