use Rattle.std.proofs.Common.{◌∙◌, arith}
use Rattle.std.proofs.lemmas.Result.{err_from_is_err_and}
use Rattle.dnswire.proofs.QueryLemmas.{passed_more, passed_next}
use Rattle.dnswire.proofs.RunLemmas.{handed_on}
use Rattle.dnswire.proofs.query_read.skip_rrs.Goals as goal

pub returns-in_err-fields-clause-faulty : goal.returns-in_err-fields-clause-faulty
returns-in_err-fields-clause-faulty c =
    let p = err_from_is_err_and c.from_residual.result c.from_residual.ensures.1 in
    rw (p.1, p.2) (λ is heads end stand long.
    let on = passed_next _ _ _ _ heads end c.loop.invariant.passed stand (omega (arith, long)) in
    c.in_err-fields.ensures.faulty (handed_on _ _ is) on.next on.after on.reads)

pub loop-preserved : goal.loop-preserved
loop-preserved c = record {
  passed = passed_more _ _ _ _ _ _ c.loop.invariant.passed c.in_ok-fields.ensures.read.1;
  sizes = c.skip_rr.ensures.sizes;
  room = c.skip_rr.ensures.room ∙ c.loop.invariant.room;
}
