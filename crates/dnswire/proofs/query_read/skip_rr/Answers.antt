use Rattle.std.proofs.Common.{subst}
use Rattle.std.proofs.lemmas.Result.{err_from_is_err_and}
use Rattle.dnswire.specs.RrHead.{AreRrFields}
use Rattle.dnswire.proofs.MessageNameLemmas.{one_name_at}
use Rattle.dnswire.proofs.RunLemmas.{handed_on}
use Rattle.dnswire.proofs.query_read.skip_rr.Goals as goal

pub returns-in_err-fields_at-clause-faulty : goal.returns-in_err-fields_at-clause-faulty
returns-in_err-fields_at-clause-faulty c =
    let p = err_from_is_err_and c.from_residual.result c.from_residual.ensures.1 in
    rw (p.1, p.2) (λ is head end h. c.in_err-fields_at.ensures.faulty (handed_on _ _ is) head.owner h.fields_at h.owner)

pub returns-in-None-clause-faulty : goal.returns-in-None-clause-faulty
returns-in-None-clause-faulty c is head end h =
    let same = one_name_at _ _ _ _ _ _ h.owner c.in_ok-fields_at.ensures.read.1 in
    let given = c.in-None.ensures.every head.fields (subst (λ n. AreRrFields c.args.octets.now n head.fields) same.1 h.fields) in
    absurd cc
