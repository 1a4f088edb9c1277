use Rattle.std.proofs.Common.{◌∙◌}
use Rattle.resolver.proofs.TargetLemmas.{too_long, wire_form, made}
use Rattle.resolver.proofs.target.target_of.Goals as goal

pub returns-then-front-end-gt-MAX_WIRE : goal.returns-then-front-end-gt-MAX_WIRE
returns-then-front-end-gt-MAX_WIRE c =
    too_long c.args.name.now c.args.owner.now c.args.suffix.now c.front_of-front.result.now c.wire-end.result.now
    c.front_of-front.ensures.name c.wire-end.ensures.name c.front_of-front.ensures.spelled c.wire-end.ensures.spelled
    c.if-front-end-gt-MAX_WIRE.true

pub of_wire-requires : goal.of_wire-requires
of_wire-requires c =
    wire_form c.args.name.now c.args.owner.now c.args.suffix.now c.front_of-front.result.now c.wire-end.result.now
    c.front_of-front.ensures.name c.wire-end.ensures.name c.front_of-front.ensures.spelled c.wire-end.ensures.spelled
    c.as_slice.result.now (c.as_slice.ensures.value ∙ c.joined.ensures) c.if-front-end-gt-MAX_WIRE.false

pub returns : goal.returns
returns c =
    made c.args.name.now c.args.owner.now c.args.suffix.now c.front_of-front.result.now c.wire-end.result.now
    c.front_of-front.ensures.name c.wire-end.ensures.name c.front_of-front.ensures.spelled c.wire-end.ensures.spelled
    c.as_slice.result.now c.of_wire.result (c.as_slice.ensures.value ∙ c.joined.ensures) c.if-front-end-gt-MAX_WIRE.false
    c.of_wire.ensures
