use Rattle.std.proofs.Common.{refl}
use Rattle.std.proofs.lemmas.Bool.{false≢true}
use Rattle.zone_index.proofs.TypeLemmas.{agree_there, agree_lacking}
use Rattle.zone_index.proofs.type_bits.agrees.Goals as goal

pub returns-then-has_type : goal.returns-then-has_type
returns-then-has_type c = agree_there c.has-listed.result (c.if-has_type.ensures.0 refl) c.has-listed.ensures.answer

pub returns-else-has_type : goal.returns-else-has_type
returns-else-has_type c = agree_lacking c.has-listed.result (λ has. false≢true (c.if-has_type.ensures.1 has)) c.has-listed.ensures.answer
