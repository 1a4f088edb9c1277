use Rattle.std.proofs.Common.{◌≡◌, ◌+◌}
use Rattle.std.proofs.lemmas.Option.{IfSome_then}
use Rattle.record_store.specs.Marks.{type_part, owner_number, set_number}
use Rattle.record_store.proofs.LookUpLemmas.{chosen_last, none_of_number, none_upto, no_alias_upto, alias_told}
use Rattle.record_store.proofs.set_search.set_and_alias_in.Goals as goal

pub returns-in_default-clause-set : goal.returns-in_default-clause-set
returns-in_default-clause-set c = none_upto c.args.zone.now c.args.owner.now c.args.rtype c.args.sets.now c.in_default.ensures

pub returns-in_default-clause-alias : goal.returns-in_default-clause-alias
returns-in_default-clause-alias c = no_alias_upto c.args.zone.now c.args.owner.now c.args.rtype c.ranges.rtype.fits c.args.sets.now c.in_default.ensures

pub returns-then-mark-number-clause-set : goal.returns-then-mark-number-clause-set
returns-then-mark-number-clause-set c =
    chosen_last c.args.zone.now c.args.owner.now c.args.rtype c.args.sets.now c.in-Some.mark c.in-Some.item.now c.in-Some.ensures _ c.as_set_at.ensures

pub returns-clause-set : goal.returns-clause-set
returns-clause-set c =
    let number : c.owner_number-least.result + c.type_part.result ≡ set_number c.args.zone.now c.args.owner.now c.args.rtype = λ i. c.owner_number-least.ensures.value i + c.type_part.ensures.value i in
    none_of_number c.args.zone.now c.args.owner.now c.args.rtype c.args.sets.now c.in-Some.mark c.in-Some.item.now c.in-Some.ensures
    (c.owner_number-least.result + c.type_part.result) number c.if-mark-number.false

pub returns-clause-alias : goal.returns-clause-alias
returns-clause-alias c =
    IfSome_then c.alias_by.result c.alias_by.ensures
    (λ alias told. alias_told c.args.zone.now c.args.owner.now c.args.rtype c.ranges.rtype.fits c.args.sets.now c.in-Some.mark c.in-Some.item.now c.in-Some.ensures c.owner_number-least.result c.owner_number-least.ensures.value alias told)
