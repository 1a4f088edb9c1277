use Rattle.std.proofs.Common.{refl, sym, ◌∙◌, ap, subst, inl, Ok}
use Rattle.denial_records.specs.TypeSet.{IsTypeMap, IsTypeSet, IsKept, types_in}
use Rattle.denial_records.proofs.TypeSetLemmas.{map_in, types_in_map}
use Rattle.denial_records.proofs.RisingLemmas.{is_kept}
use Rattle.denial_records.proofs.type_set.TypeSet.read.Goals as goal

pub invariant_of-result : goal.invariant_of-result
invariant_of-result c =
    let map = c.if-not-is_type_map.ensures.0 refl in
    subst IsKept (sym c.in-Ok.ensures) (is_kept c.args.octets.now map.0 c.type_inv.octets map.1)

pub returns-in-Ok-clause-read : goal.returns-in-Ok-clause-read
returns-in-Ok-clause-read c =
    let map = c.if-not-is_type_map.ensures.0 refl in
    subst (λ o. IsTypeMap c.args.octets.now (types_in o)) (sym c.in-Ok.ensures) (map_in c.args.octets.now map.0 map.1)

pub returns-in-Ok-clause-set : goal.returns-in-Ok-clause-set
returns-in-Ok-clause-set c =
    let map = c.if-not-is_type_map.ensures.0 refl in
    subst (λ o. IsTypeSet (types_in o)) (sym c.in-Ok.ensures) (is_kept c.args.octets.now map.0 c.type_inv.octets map.1).set

pub returns-in-Ok-clause-bad_map : goal.returns-in-Ok-clause-bad_map
returns-in-Ok-clause-bad_map c =
    let map = c.if-not-is_type_map.ensures.0 refl in
    (λ is types of. cc, λ none. absurd (none map.0 map.1))

pub returns-in-Ok-clause-every_map : goal.returns-in-Ok-clause-every_map
returns-in-Ok-clause-every_map c types is = inl (ap Ok (ap types_in c.in-Ok.ensures ∙ types_in_map c.args.octets.now types is))

pub returns-in-Err-clause-bad_map : goal.returns-in-Err-clause-bad_map
returns-in-Err-clause-bad_map c =
    let map = c.if-not-is_type_map.ensures.0 refl in
    (λ is types of. cc, λ none. absurd (none map.0 map.1))
