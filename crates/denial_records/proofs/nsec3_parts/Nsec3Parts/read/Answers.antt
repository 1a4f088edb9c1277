use Rattle.std.proofs.Common.{refl, ap, Ok, Err, inl, slice_index, rules}
use Rattle.denial_records.specs.Nsec3Parts.{IsNsec3}
use Rattle.denial_records.proofs.PartsLemmas.{ok_is_no_err, err_same, not_bad, has_layout, nsec3_rest_bad, nsec3_bad, nsec3_none, nsec3_of, one_nsec3}
use Rattle.denial_records.proofs.nsec3_parts.Nsec3Parts.read.Goals as goal

pub returns-in-Ok-of-clause-bad_map : goal.returns-in-Ok-of-clause-bad_map
returns-in-Ok-of-clause-bad_map c =
    let layout = has_layout c.args.octets.now c.octets_from.result.now c.from-salt_size.result c.from.result (c.if-is_short.ensures.no refl) c.from-salt_size.ensures c.from.ensures c.if-from-ne-HASH_OCTETS.false c.octets_from.ensures in (
      λ is. absurd (ok_is_no_err is),
      λ bad. absurd (nsec3_rest_bad c.args.octets.now c.octets_from.result.now layout bad c.in-Ok.types c.in-Ok.ensures.read),
    )

pub returns-in-Ok-of-clause-every_nsec3 : goal.returns-in-Ok-of-clause-every_nsec3
returns-in-Ok-of-clause-every_nsec3 c parts is =
    let read : IsNsec3 c.args.octets.now (record { algorithm = slice_index c.args.octets.now 0; flags = slice_index c.args.octets.now 1; iterations = c.u16_at.result; salt = c.in-Ok-of.salt; next = c.hash_at.result; types = c.in-Ok.types }) = search rules in
    inl (ap Ok (one_nsec3 c.args.octets.now _ parts read is))

pub returns-in-Err-clause-bad_map : goal.returns-in-Err-clause-bad_map
returns-in-Err-clause-bad_map c =
    let layout = has_layout c.args.octets.now c.octets_from.result.now c.from-salt_size.result c.from.result (c.if-is_short.ensures.no refl) c.from-salt_size.ensures c.from.ensures c.if-from-ne-HASH_OCTETS.false c.octets_from.ensures in (
      λ is. cc,
      λ bad. absurd (nsec3_rest_bad c.args.octets.now c.octets_from.result.now layout bad c.in-Ok.types c.in-Ok.ensures.read),
    )

pub returns-in-Err-BadMap-clause-bad_map : goal.returns-in-Err-BadMap-clause-bad_map
returns-in-Err-BadMap-clause-bad_map c =
    let layout = has_layout c.args.octets.now c.octets_from.result.now c.from-salt_size.result c.from.result (c.if-is_short.ensures.no refl) c.from-salt_size.ensures c.from.ensures c.if-from-ne-HASH_OCTETS.false c.octets_from.ensures in (
      λ is. nsec3_bad c.args.octets.now c.octets_from.result.now layout (c.in-Err-BadMap.ensures.bad_map.0 (ap Err c.in-Err-BadMap.field-0-is)),
      λ bad. refl,
    )

pub returns-in-Err-BadMap-clause-every_nsec3 : goal.returns-in-Err-BadMap-clause-every_nsec3
returns-in-Err-BadMap-clause-every_nsec3 c parts is =
    let layout = has_layout c.args.octets.now c.octets_from.result.now c.from-salt_size.result c.from.result (c.if-is_short.ensures.no refl) c.from-salt_size.ensures c.from.ensures c.if-from-ne-HASH_OCTETS.false c.octets_from.ensures in
    absurd (nsec3_none c.args.octets.now c.octets_from.result.now parts layout (c.in-Err-BadMap.ensures.bad_map.0 (ap Err c.in-Err-BadMap.field-0-is)) is)

pub returns-in-Err-OutOfMemory-clause-bad_map : goal.returns-in-Err-OutOfMemory-clause-bad_map
returns-in-Err-OutOfMemory-clause-bad_map c =
    let layout = has_layout c.args.octets.now c.octets_from.result.now c.from-salt_size.result c.from.result (c.if-is_short.ensures.no refl) c.from-salt_size.ensures c.from.ensures c.if-from-ne-HASH_OCTETS.false c.octets_from.ensures in (
      λ is. cc,
      λ bad. absurd (not_bad c.in-Err-OutOfMemory.field-0 c.in-Err-OutOfMemory.field-0-is
          (err_same _ _ (c.in-Err-OutOfMemory.ensures.bad_map.1 (nsec3_rest_bad c.args.octets.now c.octets_from.result.now layout bad)))),
    )

pub returns-in-Err-clause-out_of_memory : goal.returns-in-Err-clause-out_of_memory
returns-in-Err-clause-out_of_memory c is =
    let layout = has_layout c.args.octets.now c.octets_from.result.now c.from-salt_size.result c.from.result (c.if-is_short.ensures.no refl) c.from-salt_size.ensures c.from.ensures c.if-from-ne-HASH_OCTETS.false c.octets_from.ensures in
    nsec3_of c.args.octets.now c.octets_from.result.now c.in-Ok.types layout c.in-Ok.ensures.read

pub returns-in-Err-OutOfMemory-clause-out_of_memory : goal.returns-in-Err-OutOfMemory-clause-out_of_memory
returns-in-Err-OutOfMemory-clause-out_of_memory c is =
    let layout = has_layout c.args.octets.now c.octets_from.result.now c.from-salt_size.result c.from.result (c.if-is_short.ensures.no refl) c.from-salt_size.ensures c.from.ensures c.if-from-ne-HASH_OCTETS.false c.octets_from.ensures in
    let map = c.in-Err-OutOfMemory.ensures.out_of_memory (ap Err c.in-Err-OutOfMemory.field-0-is) in
    nsec3_of c.args.octets.now c.octets_from.result.now map.0 layout map.1
