use Rattle.std.proofs.Common.{◌^◌, ◌<◌, refl, arith}
use Rattle.std.proofs.lemmas.List.Elements.{All-contains}
use Rattle.zone_index.proofs.TypeLemmas.{walked_more}
use Rattle.zone_index.proofs.type_bits.have_records.Goals as goal

pub loop-rtype-preserved : goal.loop-rtype-preserved
loop-rtype-preserved c = walked_more c.args.records.now.zone c.args.records.now.name c.args.types.now c.loop-rtype.from c.in-Some.rtype c.loop-rtype.invariant c.in-Some.ensures.next.2 (c.if-is_missing.ensures.there refl)

pub returns-then-rtype : goal.returns-then-rtype
returns-then-rtype c = (
  λ _ t has plain. walked_more c.args.records.now.zone c.args.records.now.name c.args.types.now c.loop-rtype.from c.in-Some.rtype c.loop-rtype.invariant c.in-Some.ensures.next.2 (c.if-is_missing.ensures.there refl) t has (omega (arith, All-contains (λ rtype. rtype < 2 ^ 16) c.args.types.now t c.in-Some.ensures.set.small has, c.if-rtype.true)) plain,
  λ _. refl,
)

pub returns : goal.returns
returns c = (λ _ t has plain. c.loop-rtype.invariant t has (c.in_default.ensures.none t has) plain, λ _. refl)
