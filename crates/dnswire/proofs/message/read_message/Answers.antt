use Rattle.dnswire.proofs.MessageLemmas.{every_message, every_fault}
use Rattle.dnswire.proofs.message.read_message.Goals as goal

pub returns-clause-every_message : goal.returns-clause-every_message
returns-clause-every_message c message a = every_message _ _ message c.message_of.ensures.read c.message_of.ensures.refused a

pub returns-clause-every_fault : goal.returns-clause-every_fault
returns-clause-every_fault c fault a = every_fault _ _ fault c.message_of.ensures.read c.message_of.ensures.refused a
