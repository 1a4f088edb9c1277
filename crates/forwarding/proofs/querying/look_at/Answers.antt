use Rattle.std.proofs.Common.{◌≡◌, ◌∙◌, ℕ, sym, ap, subst}
use Rattle.std.specs.Option.{option_map}
use Rattle.arrivals.specs.declared.carrier.Carrier.{Carrier}
use Rattle.cache_versions.specs.Lends.{seat_in}
use Rattle.cache_versions.specs.Seats.{seen_by}
use Rattle.forwarding.specs.Buffers.{octets_in}
use Rattle.forwarding.specs.declared.buffers.Buffers.{Buffers}
use Rattle.forwarding.specs.Done.{found, found_as, found_within}
use Rattle.forwarding.proofs.querying.look_at.Goals as goal

pub returns-in-Datagram : goal.returns-in-Datagram
returns-in-Datagram c =
    let seen = seen_by (seat_in c.args.version.now) in
    let after : Buffers = record { datagram = c.look_within.new.out; stream = c.args.out.now.stream } in
    subst (λ (carrier : Carrier). found carrier seen c.args.question.now c.args.now ≡ option_map (found_as (octets_in after carrier)) c.look_within.result) (sym c.in-Datagram.is)
    (ap (λ (n : ℕ). found_within n seen c.args.question.now c.args.now) (sym c.limit_of-limit.ensures.value) ∙ c.look_within.ensures)

pub returns-in-Stream : goal.returns-in-Stream
returns-in-Stream c =
    let seen = seen_by (seat_in c.args.version.now) in
    let after : Buffers = record { datagram = c.args.out.now.datagram; stream = c.look_within-in-Stream.new.out } in
    subst (λ (carrier : Carrier). found carrier seen c.args.question.now c.args.now ≡ option_map (found_as (octets_in after carrier)) c.look_within-in-Stream.result) (sym c.in-Stream.is)
    c.look_within-in-Stream.ensures
