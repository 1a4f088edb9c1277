use Rattle.record_store.proofs.MarkLemmas.{no_set_upto}
use Rattle.record_store.proofs.set_search.is_upto.Goals as goal

pub returns-in_default : goal.returns-in_default
returns-in_default c = no_set_upto c.args.item.now c.in_default.not-Set c.args.zone.now c.args.owner.now c.args.rtype c.args.number c.requires
