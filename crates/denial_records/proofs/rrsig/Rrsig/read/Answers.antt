use Rattle.std.proofs.Common.{sym, ap, subst, Ok, slice_index, rules}
use Rattle.dname.specs.Read.{Spells, StopsAt}
use Rattle.denial_records.specs.Rrsig.{IsRrsig}
use Rattle.denial_records.proofs.PartsLemmas.{ok_is_no_err, ok_same, one_rrsig}
use Rattle.denial_records.proofs.rrsig.Rrsig.read.Goals as goal

pub returns-in-Ok-clause-bad_name : goal.returns-in-Ok-clause-bad_name
returns-in-Ok-clause-bad_name c = (
  λ is. absurd (ok_is_no_err is),
  λ bad. absurd (ok_is_no_err (c.in-Ok.ensures.every_fault bad.1.0 (subst (λ l. StopsAt l bad.1.0) (sym c.octets_from.ensures) bad.1.1))),
)

pub returns-in-Ok-clause-every_rrsig : goal.returns-in-Ok-clause-every_rrsig
returns-in-Ok-clause-every_rrsig c rrsig is =
    let spells = subst (λ l. Spells l rrsig.signer is.taken) (sym c.octets_from.ensures) is.name in
    let same = ok_same _ _ (c.in-Ok.ensures.every_name rrsig.signer is.taken spells) in
    let read : IsRrsig c.args.octets.now (record { covered = c.u16_at.result; algorithm = slice_index c.args.octets.now 2; labels = slice_index c.args.octets.now 3; original_ttl = c.u32_at.result; expiration = c.u32_at-in-Ok.result; inception = c.u32_at-in-Ok-2.result; key_tag = c.u16_at-in-Ok.result; signer = c.in-Ok.signer }) = search rules in
    ap Ok (one_rrsig c.args.octets.now _ rrsig read is (ap (λ r. r.0) same))

pub returns-in-Err-clause-every_rrsig : goal.returns-in-Err-clause-every_rrsig
returns-in-Err-clause-every_rrsig c rrsig is =
    let spells = subst (λ l. Spells l rrsig.signer is.taken) (sym c.octets_from.ensures) is.name in
    absurd (ok_is_no_err (sym (c.in-Err.ensures.every_name rrsig.signer is.taken spells)))
