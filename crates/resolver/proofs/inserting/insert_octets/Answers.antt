use Rattle.resolver.proofs.InsertLemmas.{every_fault, every_state}
use Rattle.resolver.proofs.inserting.insert_octets.Goals as goal

pub returns-clause-every_stored : goal.returns-clause-every_stored
returns-clause-every_stored c = λ after counts is. every_state c.args.store.now c.args.octets.now c.args.now c.inserted.result after counts c.inserted.ensures.stored c.inserted.ensures.refused is

pub returns-clause-every_refused : goal.returns-clause-every_refused
returns-clause-every_refused c = λ fault is. every_fault c.args.store.now c.args.octets.now c.args.now c.inserted.result fault c.inserted.ensures.stored c.inserted.ensures.refused is
