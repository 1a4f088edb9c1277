use Rattle.std.proofs.Common.{◌<◌, All}
use Rattle.forwarding.proofs.ticking.draw.Given as goal

-- each is one of 16 bits
abbrev pub invariant-loop-slot : goal.invariant-loop-slot
invariant-loop-slot g l = All (λ id. id < 65536) l.ids
