use Rattle.std.proofs.Common.{Some, subst, arith}
use Rattle.resolver.proofs.GoneOnLemmas.{gone_on_self}
use Rattle.serving.specs.Done.{IsAnswer, awaited, batch_in}
use Rattle.serving.proofs.DoneLemmas.{relay_done}
use Rattle.serving.proofs.datagram.upstream_datagram.Goals as goal

pub returns-in_err-message-clause-on : goal.returns-in_err-message-clause-on
returns-in_err-message-clause-on g c = gone_on_self c.args.cache.now c.args.seat.now c.requires.object

pub returns-in_default-clause-on : goal.returns-in_default-clause-on
returns-in_default-clause-on g c = gone_on_self c.args.cache.now c.args.seat.now c.requires.object

pub returns-in-Ignored-clause-on : goal.returns-in-Ignored-clause-on
returns-in-Ignored-clause-on g c = gone_on_self c.args.cache.now c.args.seat.now c.requires.object

pub store-requires-clause-read : goal.store-requires-clause-read
store-requires-clause-read g c = record {
  octets = c.args.octets.now;
  small = λ i. omega (arith, c.type_inv.octets i);
  reads = (subst (IsAnswer c.args.octets.now) c.in-Some.is c.in_ok-message.ensures.answer).0;
}

pub returns-in-Ok-clause-done : goal.returns-in-Ok-clause-done
returns-in-Ok-clause-done g c =
    let message = c.in-Some.message in
    let answer = subst (IsAnswer c.args.octets.now) c.in-Some.is c.in_ok-message.ensures.answer in
    let stored = c.in-Ok.ensures.stored c.args.octets.now answer.0 in (
      batch_in stored.0,
      stored.2,
      (
        Some message,
        answer,
        relay_done c.args.core.now c.args.now c.args.octets.now message (awaited c.args.core.now message) c.in-Relay.client c.in-Relay.question c.write_relay.new.out c.step.new.self stored.0
            c.in-Relay.ensures.action c.in-Relay.ensures.table c.write_relay.ensures.value stored.1,
      ),
    )
