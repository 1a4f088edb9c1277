use Rattle.std.proofs.Common.{refl, inr}
use Rattle.std.proofs.lemmas.Result.{err_from_is_err_and}
use Rattle.dnswire.specs.Message.HasRrFault.{truncated}
use Rattle.dnswire.proofs.MessageLemmas.{owner_refused, head_of_rr, data_refused}
use Rattle.dnswire.proofs.rr.Rr.read.Goals as goal

pub returns-in_err-owner-clause-refused : goal.returns-in_err-owner-clause-refused
returns-in_err-owner-clause-refused c =
    let p = err_from_is_err_and c.from_residual.result c.from_residual.ensures.1 in
    rw (p.1, p.2) (owner_refused _ _ _ c.in_err-owner.ensures.refused)

pub returns-in_default-clause-refused : goal.returns-in_default-clause-refused
returns-in_default-clause-refused c =
    inr (truncated c.in_ok-owner.owner c.in_ok-owner.fields_at c.in_ok-owner.ensures.read c.in_default.ensures.none refl)

pub returns-in_err-octets-clause-refused : goal.returns-in_err-octets-clause-refused
returns-in_err-octets-clause-refused c =
    let p = err_from_is_err_and c.from_residual-in_err-octets.result c.from_residual-in_err-octets.ensures.1 in
    rw (p.1, p.2) (data_refused _ _ _ _ (head_of_rr _ _ c.in_ok-owner.owner c.in_ok-owner.fields_at c.in-Some.fields c.in_ok-owner.ensures.read c.in-Some.ensures.read) c.in_err-octets.ensures.refused)

pub returns-clause-read : goal.returns-clause-read
returns-clause-read c = record {
  head = record { owner = c.in_ok-owner.owner; fields = c.in-Some.fields };
  reads = head_of_rr _ _ c.in_ok-owner.owner c.in_ok-owner.fields_at c.in-Some.fields c.in_ok-owner.ensures.read c.in-Some.ensures.read;
  owner = c.in_ok-boxed.ensures.ok;
  rtype = refl;
  class = refl;
  ttl = refl;
  rdata = c.in_ok-octets.ensures.read;
}
