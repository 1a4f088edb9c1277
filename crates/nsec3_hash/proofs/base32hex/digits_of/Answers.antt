use Rattle.std.proofs.Common.{rules}
use Rattle.nsec3_hash.proofs.TextLemmas.{values_of-eight}
use Rattle.nsec3_hash.proofs.base32hex.digits_of.Goals as goal

pub returns : goal.returns
returns c = rw values_of-eight (search rules)
