use Rattle.cache_meaning.proofs.EvidenceLemmas.{is_under_from_under}
use Rattle.synth_nsec.proofs.nsec_evidence.is_under.Goals as goal

pub returns : goal.returns
returns c = is_under_from_under c.args.name c.args.other c.is_under.result c.is_under.ensures
