use Rattle.std.proofs.Common.{refl, sym, ap, Ok, Err, inl}
use Rattle.denial_records.proofs.PartsLemmas.{ok_is_no_err, ok_same, err_same, not_bad, is_read, nsec_rest_bad, nsec_bad, nsec_none, nsec_of, one_nsec}
use Rattle.denial_records.proofs.nsec_parts.NsecParts.read.Goals as goal

pub returns-in-Err-clause-bad_map : goal.returns-in-Err-clause-bad_map
returns-in-Err-clause-bad_map c = (
  λ is. cc,
  λ bad. absurd (ok_is_no_err (sym (c.in-Err.ensures.every_name bad.name bad.taken bad.spelled))),
)

pub returns-in-Err-clause-every_nsec : goal.returns-in-Err-clause-every_nsec
returns-in-Err-clause-every_nsec c parts is = absurd (ok_is_no_err (sym (c.in-Err.ensures.every_name parts.next is.taken is.name)))

pub returns-in-Ok-read-clause-bad_name : goal.returns-in-Ok-read-clause-bad_name
returns-in-Ok-read-clause-bad_name c = (
  λ is. absurd (ok_is_no_err is),
  λ stops. absurd (ok_is_no_err (c.in-Ok.ensures.every_fault stops.0 stops.1)),
)

pub returns-in-Ok-read-clause-bad_map : goal.returns-in-Ok-read-clause-bad_map
returns-in-Ok-read-clause-bad_map c =
    let read = is_read c.args.octets.now c.in-Ok.read c.octets_from.result.now (λ name taken spells. ok_same _ _ (c.in-Ok.ensures.every_name name taken spells)) c.octets_from.ensures in (
      λ is. absurd (ok_is_no_err is),
      λ bad. absurd (nsec_rest_bad c.args.octets.now c.in-Ok.read.0 c.in-Ok.read.1 c.octets_from.result.now read bad c.in-Ok-read.types c.in-Ok-read.ensures.read),
    )

pub returns-in-Ok-read-clause-every_nsec : goal.returns-in-Ok-read-clause-every_nsec
returns-in-Ok-read-clause-every_nsec c parts is =
    let read = is_read c.args.octets.now c.in-Ok.read c.octets_from.result.now (λ name taken spells. ok_same _ _ (c.in-Ok.ensures.every_name name taken spells)) c.octets_from.ensures in
    inl (ap Ok (one_nsec c.args.octets.now c.in-Ok.read.0 c.in-Ok.read.1 c.octets_from.result.now c.in-Ok-read.types parts read c.in-Ok-read.ensures.read is))

pub returns-in-Err-BadMap-clause-bad_name : goal.returns-in-Err-BadMap-clause-bad_name
returns-in-Err-BadMap-clause-bad_name c = (
  λ is. cc,
  λ stops. absurd (ok_is_no_err (c.in-Ok.ensures.every_fault stops.0 stops.1)),
)

pub returns-in-Err-BadMap-clause-bad_map : goal.returns-in-Err-BadMap-clause-bad_map
returns-in-Err-BadMap-clause-bad_map c = (
  λ is. nsec_bad c.args.octets.now c.in-Ok.read.0 c.in-Ok.read.1 c.octets_from.result.now c.in-Ok.ensures.read c.octets_from.ensures
      (c.in-Err-BadMap.ensures.bad_map.0 (ap Err c.in-Err-BadMap.field-0-is)),
  λ bad. refl,
)

pub returns-in-Err-BadMap-clause-every_nsec : goal.returns-in-Err-BadMap-clause-every_nsec
returns-in-Err-BadMap-clause-every_nsec c parts is =
    let read = is_read c.args.octets.now c.in-Ok.read c.octets_from.result.now (λ name taken spells. ok_same _ _ (c.in-Ok.ensures.every_name name taken spells)) c.octets_from.ensures in
    absurd (nsec_none c.args.octets.now c.in-Ok.read.0 c.in-Ok.read.1 c.octets_from.result.now parts read (c.in-Err-BadMap.ensures.bad_map.0 (ap Err c.in-Err-BadMap.field-0-is)) is)

pub returns-in-Err-OutOfMemory-clause-bad_name : goal.returns-in-Err-OutOfMemory-clause-bad_name
returns-in-Err-OutOfMemory-clause-bad_name c = (
  λ is. cc,
  λ stops. absurd (ok_is_no_err (c.in-Ok.ensures.every_fault stops.0 stops.1)),
)

pub returns-in-Err-OutOfMemory-clause-bad_map : goal.returns-in-Err-OutOfMemory-clause-bad_map
returns-in-Err-OutOfMemory-clause-bad_map c =
    let read = is_read c.args.octets.now c.in-Ok.read c.octets_from.result.now (λ name taken spells. ok_same _ _ (c.in-Ok.ensures.every_name name taken spells)) c.octets_from.ensures in (
      λ is. cc,
      λ bad. absurd (not_bad c.in-Err-OutOfMemory.field-0 c.in-Err-OutOfMemory.field-0-is
          (err_same _ _ (c.in-Err-OutOfMemory.ensures.bad_map.1 (nsec_rest_bad c.args.octets.now c.in-Ok.read.0 c.in-Ok.read.1 c.octets_from.result.now read bad)))),
    )

pub returns-in-Err-OutOfMemory-clause-out_of_memory : goal.returns-in-Err-OutOfMemory-clause-out_of_memory
returns-in-Err-OutOfMemory-clause-out_of_memory c is =
    let map = c.in-Err-OutOfMemory.ensures.out_of_memory (ap Err c.in-Err-OutOfMemory.field-0-is) in
    nsec_of c.args.octets.now c.in-Ok.read.0 c.in-Ok.read.1 c.octets_from.result.now map.0 c.in-Ok.ensures.read c.octets_from.ensures map.1
