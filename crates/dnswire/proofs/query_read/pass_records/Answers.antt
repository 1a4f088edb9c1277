use Rattle.std.proofs.Common.{◌∙◌, arith}
use Rattle.std.proofs.lemmas.Result.{err_from_is_err_and}
use Rattle.dnswire.proofs.QueryLemmas.{additional_from}
use Rattle.dnswire.proofs.RunLemmas.{handed_on}
use Rattle.dnswire.proofs.query_read.pass_records.Goals as goal

pub returns-in_err-additional_at-clause-faulty : goal.returns-in_err-additional_at-clause-faulty
returns-in_err-additional_at-clause-faulty c =
    let p = err_from_is_err_and c.from_residual.result c.from_residual.ensures.1 in
    rw (p.1, p.2) (λ is edns version has. c.in_err-additional_at.ensures.faulty (handed_on _ _ is) has.passed has.additional_at has.front (has.passed_are ∙ omega (arith, c.from.ensures, c.from-2.ensures)))

pub returns-in_err-said-clause-faulty : goal.returns-in_err-said-clause-faulty
returns-in_err-said-clause-faulty c =
    let p = err_from_is_err_and c.from_residual-in_err-said.result c.from_residual-in_err-said.ensures.1 in
    let front = c.in_ok-additional_at.ensures.read in
    rw (p.1, p.2) (λ is edns version has.
    let back = additional_from _ _ _ edns version front.0 _ has front.1 (front.2 ∙ omega (arith, c.from.ensures, c.from-2.ensures)) in
    c.in_err-said.ensures.faulty (handed_on _ _ is) has.additional has.end edns version back has.additional_are has.opts)

pub returns-clause-read : goal.returns-clause-read
returns-clause-read c =
    let front = c.in_ok-additional_at.ensures.read in
    let back = c.in_ok-said.ensures.read in
    record {
      passed = front.0;
      additional_at = c.in_ok-additional_at.additional_at;
      front = front.1;
      passed_are = front.2 ∙ omega (arith, c.from.ensures, c.from-2.ensures);
      additional = back.0;
      end = back.1;
      back = back.2;
      additional_are = back.3;
      opts = back.4;
    }
