use Rattle.std.proofs.Common.{◌≡◌, ◌∙◌, ℕ, sym, ap, subst}
use Rattle.arrivals.specs.declared.carrier.Carrier.{Carrier}
use Rattle.forwarding.specs.Buffers.{octets_in}
use Rattle.forwarding.specs.declared.buffers.Buffers.{Buffers}
use Rattle.forwarding.specs.ExtendedError.{told_relay}
use Rattle.forwarding.specs.Limit.{limit_for}
use Rattle.forwarding.proofs.telling.write_answer.Goals as goal

pub returns-in-Datagram : goal.returns-in-Datagram
returns-in-Datagram c =
    let question = c.args.client.now.question in
    let after : Buffers = record { datagram = c.write_told_relay.new.out; stream = c.args.out.now.stream } in
    subst (λ (carrier : Carrier). octets_in after carrier ≡ told_relay (limit_for carrier question.edns) question c.args.message.now) (sym c.in-Datagram.is)
    (c.write_told_relay.ensures.value ∙ ap (λ (n : ℕ). told_relay n question c.args.message.now) c.limit_of-limit.ensures.value)

pub returns-in-Stream : goal.returns-in-Stream
returns-in-Stream c =
    let question = c.args.client.now.question in
    let after : Buffers = record { datagram = c.args.out.now.datagram; stream = c.write_told_relay-in-Stream.new.out } in
    subst (λ (carrier : Carrier). octets_in after carrier ≡ told_relay (limit_for carrier question.edns) question c.args.message.now) (sym c.in-Stream.is)
    c.write_told_relay-in-Stream.ensures.value
