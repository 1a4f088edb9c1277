use Rattle.std.proofs.Common.{sym, ◌∙◌}
use Rattle.record_store.proofs.MarkLemmas.{set_tied}
use Rattle.record_store.proofs.ranks.BySetRankingRecord.compare.Goals as goal

pub returns-in-Equal : goal.returns-in-Equal
returns-in-Equal c = sym (set_tied c.args.one.now c.args.other.now (sym c.key_cmp.ensures ∙ c.in-Equal.is))
