use Rattle.zone_maker.specs.Messages.{message_at}
use Rattle.zone_maker.proofs.MessageLemmas.{message_more}
use Rattle.zone_maker.proofs.message.messages.Goals as goal

pub loop-k-preserved : goal.loop-k-preserved
loop-k-preserved c = message_more (message_at c.args.seed c.args.names) c.loop-k.k c.loop-k.messages c.push.new.self c.in_ok-message.field-0 c.loop-k.invariant c.in_ok-message.ensures c.in_ok-push.ensures.ok
