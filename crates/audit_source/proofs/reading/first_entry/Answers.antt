use Rattle.std.proofs.Common.{refl}
use Rattle.audit_source.proofs.PieceLemmas.{entry_whole, entry_no_name, entry_no_data}
use Rattle.audit_source.proofs.reading.first_entry.Goals as goal

pub returns-in_err-owner-clause-none : goal.returns-in_err-owner-clause-none
returns-in_err-owner-clause-none c = λ _. entry_no_name c.args.octets.now (c.in_err-owner.ensures.none refl)

pub returns-in_err-data-clause-none : goal.returns-in_err-data-clause-none
returns-in_err-data-clause-none c = λ _.
    entry_no_data c.args.octets.now c.in_ok-owner.rest.now c.in_ok-rtype.rest.now c.in_ok-owner.owner c.in_ok-rtype.rtype c.in_ok-owner.ensures.some c.in_ok-rtype.ensures.some (c.in_err-data.ensures.none refl)

pub returns-clause-some : goal.returns-clause-some
returns-clause-some c =
    entry_whole c.args.octets.now c.in_ok-owner.rest.now c.in_ok-rtype.rest.now c.in_ok-data.rest.now c.in_ok-data.data.now c.in_ok-owner.owner c.in_ok-rtype.rtype c.in_ok-owner.ensures.some c.in_ok-rtype.ensures.some c.in_ok-data.ensures.some
