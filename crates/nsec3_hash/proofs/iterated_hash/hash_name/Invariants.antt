use Rattle.std.proofs.Common.{◌≡◌}
use Rattle.dname.specs.Name.{wire_of}
use Rattle.nsec3_hash.specs.IteratedHash.{iterated_hash}
use Rattle.nsec3_hash.proofs.iterated_hash.hash_name.Given as goal

-- the hash of so many iterations
abbrev pub invariant-rounds : goal.invariant-rounds
invariant-rounds l = l.hash ≡ iterated_hash l.salt (wire_of l.name) l.counter
