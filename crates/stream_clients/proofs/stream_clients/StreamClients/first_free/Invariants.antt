use Rattle.std.proofs.Common.{◌≡◌, ℕ, ◌<◌, false}
use Rattle.stream_clients.specs.Places.{is_free, place_at}
use Rattle.stream_clients.proofs.stream_clients.StreamClients.first_free.Given as goal

-- no place before is free
abbrev pub invariant-loop-place : goal.invariant-loop-place
invariant-loop-place l = (k : ℕ) → k < l.place → is_free (place_at l.self k) ≡ false
