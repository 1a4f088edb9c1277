use Rattle.std.proofs.Common.{◌≡◌, ◌∙◌, ℕ, arith, ap, subst, length, replicate}
use Rattle.std.proofs.lemmas.List.{length-replicate}
use Rattle.stream_clients.specs.Places.{Place, no_connections, unused}
use Rattle.stream_clients.proofs.stream_clients.StreamClients.new.Goals as goal

pub returns : goal.returns
unfolding no_connections
returns c =
    let all : c.loop.counter ≡ 32 = omega arith in
    subst (λ (n : ℕ). c.loop.places.items ≡ replicate {A = Place} n unused) all c.loop.invariant

pub invariant_of-result : goal.invariant_of-result
invariant_of-result c =
    let all : c.loop.counter ≡ 32 = omega arith in
    let places : c.loop.places.items ≡ replicate {A = Place} 32 unused = subst (λ (n : ℕ). c.loop.places.items ≡ replicate {A = Place} n unused) all c.loop.invariant in
    ap length places ∙ length-replicate {A = Place} 32 unused
