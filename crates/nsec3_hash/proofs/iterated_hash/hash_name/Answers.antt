use Rattle.std.proofs.Common.{rules, add-one}
use Rattle.nsec3_hash.specs.IteratedHash.{iterated_hash}
use Rattle.nsec3_hash.proofs.iterated_hash.hash_name.Goals as goal

pub rounds-init : goal.rounds-init
unfolding iterated_hash
rounds-init c = search rules

pub rounds-preserved : goal.rounds-preserved
unfolding iterated_hash
rounds-preserved c = rw add-one (search rules)
