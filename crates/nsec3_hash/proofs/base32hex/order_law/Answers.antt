use Rattle.nsec3_hash.proofs.TextLemmas.{text_of-cmp}
use Rattle.nsec3_hash.proofs.base32hex.order_law.Goals as goal

pub returns : goal.returns
returns c = text_of-cmp
