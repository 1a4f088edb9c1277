use Rattle.std.proofs.Common.{ap, not}
use Rattle.cache_meaning.proofs.EvidenceLemmas.{has_type_from_contains}
use Rattle.cache_meaning.proofs.types.lacks_type.Goals as goal

pub returns : goal.returns
returns c = ap not (has_type_from_contains c.args.types.now c.args.rtype c.has.result c.has.ensures.answer)
