use Rattle.std.proofs.Common.{◌≡◌, ℕ, ◌<◌, ◌≤◌, false}
use Rattle.stream_clients.specs.Idle.{has_waited_at}
use Rattle.stream_clients.specs.Places.{place_at}
use Rattle.stream_clients.proofs.stream_clients.StreamClients.next_idle.Given as goal

-- no place before has a connection that has waited too long
abbrev pub invariant-loop-place : goal.invariant-loop-place
invariant-loop-place l = (k : ℕ) → l.from ≤ k → k < l.place → has_waited_at l.now (place_at l.self k).connection ≡ false
