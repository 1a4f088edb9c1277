use Rattle.std.proofs.Common.{List, sym, ap, refl}
use Rattle.denial_records.specs.declared.record.Record.{Record}
use Rattle.forwarding.specs.Passed.{some_batch}
use Rattle.forwarding.proofs.PassedLemmas.{some_is}
use Rattle.forwarding.proofs.storing.some_batch.Goals as goal

pub returns-then-is_empty : goal.returns-then-is_empty
returns-then-is_empty c = sym (ap (λ (l : List Record). some_batch c.args.batch l) (c.is_empty.ensures.0 c.if-is_empty.true))

pub returns : goal.returns
returns c = some_is c.args.batch c.args.batch.records refl c.is_empty.result c.is_empty.ensures c.if-is_empty.false
