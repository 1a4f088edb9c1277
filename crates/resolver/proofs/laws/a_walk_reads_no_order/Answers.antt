use Rattle.std.proofs.Common.{refl}
use Rattle.held_laws.specs.KeyOrder.{kept_of}
use Rattle.resolver.proofs.AlikeLemmas.{reply_as_held}
use Rattle.resolver.proofs.laws.a_walk_reads_no_order.Goals as goal

pub returns : goal.returns
returns c = λ rule journal question now. reply_as_held rule journal (kept_of journal) question now refl
