use Rattle.std.specs.Prelude.{Ok}
use Rattle.std.proofs.lemmas.Result.{on_ok_weaker}
use Rattle.resolver.proofs.GoneOnLemmas.{gone_on_self}
use Rattle.serving.proofs.storing.store.Goals as goal

pub returns-in-Ok-clause-stored : goal.returns-in-Ok-clause-stored
returns-in-Ok-clause-stored g c = on_ok_weaker c.insert.result (λ kept octets reads. (Ok c.in-Ok.taken, c.in-Ok.ensures.taken octets reads, kept)) c.insert.ensures.kept

pub returns-in-Err-clause-on : goal.returns-in-Err-clause-on
returns-in-Err-clause-on g c = gone_on_self c.args.cache.now c.args.seat.now c.requires.object
