use Rattle.std.proofs.Common.{refl}
use Rattle.audit_source.proofs.PieceLemmas.{head_no_name, head_too_many}
use Rattle.audit_source.proofs.reading.first_head.Goals as goal

pub returns-in_err-apex-clause-none : goal.returns-in_err-apex-clause-none
returns-in_err-apex-clause-none c = λ _. head_no_name c.args.octets.now (c.in_err-apex.ensures.none refl)

pub returns-then-count-gt-MOST_RECORDS-clause-none : goal.returns-then-count-gt-MOST_RECORDS-clause-none
returns-then-count-gt-MOST_RECORDS-clause-none c = λ _.
    head_too_many c.args.octets.now c.in_ok-apex.rest.now c.in_ok-count.rest.now c.in_ok-apex.apex c.in_ok-count.count c.in_ok-apex.ensures.some c.in_ok-count.ensures.some c.if-count-gt-MOST_RECORDS.true
