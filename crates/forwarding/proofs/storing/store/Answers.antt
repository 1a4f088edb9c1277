use Rattle.std.proofs.Common.{List, ℕ, subst}
use Rattle.cache_versions.specs.Seats.{seen_by}
use Rattle.forwarding.specs.Stored.{IsStoring}
use Rattle.forwarding.proofs.DoneLemmas.{as_stored, as_unstored}
use Rattle.forwarding.proofs.storing.store.Goals as goal

pub returns-in-Ok-clause-stored : goal.returns-in-Ok-clause-stored
returns-in-Ok-clause-stored g c =
    let now = c.args.event.now.moment.seconds in
    let seen = seen_by c.store_octets.new.seat in
    subst (λ (o : List ℕ). IsStoring c.args.passed.now o now seen c.in-Ok.counter) c.as_slice-octets.ensures.value
    (as_stored c.args.passed.now c.as_slice-octets.result.now now seen c.in-Ok.counter c.in-Ok.ensures.stored)

pub returns-in-Err-clause-stored : goal.returns-in-Err-clause-stored
returns-in-Err-clause-stored g c =
    as_unstored c.args.passed.now c.args.event.now.octets.items c.args.event.now.moment.seconds (seen_by c.store_octets.new.seat)
