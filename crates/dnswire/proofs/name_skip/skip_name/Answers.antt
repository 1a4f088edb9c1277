use Rattle.std.proofs.Common.{refl}
use Rattle.std.proofs.lemmas.Result.{err_from_is_err_and}
use Rattle.dnswire.proofs.MessageNameLemmas.{name_within}
use Rattle.dnswire.proofs.RunLemmas.{handed_on, closed_name, pointed_name, no_rest_no_name}
use Rattle.dnswire.proofs.name_skip.skip_name.Goals as goal

pub returns-in_default-next-clause-read : goal.returns-in_default-next-clause-read
returns-in_default-next-clause-read c =
    let ends = rw c.in_default-next.is at c.in-Some.ensures.read.ends in
    closed_name _ _ _ c.in-Some.ensures.read.passed ends c.in-Some.ensures.room

pub returns-in_err-pass_rest-clause-faulty : goal.returns-in_err-pass_rest-clause-faulty
returns-in_err-pass_rest-clause-faulty c =
    let p = err_from_is_err_and c.from_residual.result c.from_residual.ensures.1 in
    let ends = rw c.in-Some-next.is at c.in-Some.ensures.read.ends in
    rw (p.1, p.2) (λ is name end. no_rest_no_name _ _ _ _ name end c.in-Some.ensures.read.passed ends.0 (c.in_err-pass_rest.ensures.faulty (handed_on _ _ is)) c.in-Some.ensures.room)

pub returns-clause-read : goal.returns-clause-read
returns-clause-read c =
    let ends = rw c.in-Some-next.is at c.in-Some.ensures.read.ends in
    let rest = c.in_ok-pass_rest.ensures.read refl in
    pointed_name _ _ _ _ _ c.in-Some.ensures.read.passed ends.0 ends.1 rest.1 rest.2 c.in-Some.ensures.room

pub returns-clause-within : goal.returns-clause-within
returns-clause-within c =
    let read = returns-clause-read c in
    name_within _ _ _ _ read.1
