use Rattle.std.proofs.Common.{rules}
use Rattle.std.proofs.lemmas.List.{nil_from_length}
use Rattle.cache_versions.proofs.desk.Desk.publish.Goals as goal

pub show-writer-requires-clause-idle : goal.show-writer-requires-clause-idle
show-writer-requires-clause-idle g c κs within = nil_from_length _ (search rules)
