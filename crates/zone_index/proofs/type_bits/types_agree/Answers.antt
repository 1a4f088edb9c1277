use Rattle.std.proofs.Common.{refl, subst}
use Rattle.std.proofs.lemmas.Bool.{false≢true}
use Rattle.zone_meaning.specs.Zone.{IsZone}
use Rattle.zone_index.proofs.TypeLemmas.{agree_at_cut, lacks_type, agree_elsewhere}
use Rattle.zone_index.proofs.type_bits.types_agree.Goals as goal

pub returns-then-is_cut : goal.returns-then-is_cut
returns-then-is_cut c =
    let h = agree_at_cut c.args.records.now.zone c.args.records.now.name c.args.types.now (c.if-is_cut.ensures.0 refl) in
    (λ t. h.0 (c.parent_types_agree.ensures.0 t), λ agree. c.parent_types_agree.ensures.1 (h.1 agree))

pub returns-then-not-has_types_in : goal.returns-then-not-has_types_in
returns-then-not-has_types_in c = (
  λ e. absurd (false≢true e),
  λ agree. absurd (false≢true (c.if-not-has_types_in.ensures.1 (lacks_type c.args.records.now.zone (subst IsZone c.zone.ensures c.apex-apex.ensures.zone) c.args.records.now.name c.args.types.now (λ cut. false≢true (c.if-is_cut.ensures.1 cut)) agree))),
)

pub returns : goal.returns
returns c =
    let h = agree_elsewhere c.args.records.now.zone c.args.records.now.name c.args.types.now (λ cut. false≢true (c.if-is_cut.ensures.1 cut)) (c.if-not-has_types_in.ensures.0 refl) in
    (λ t. h.0 (c.have_records.ensures.0 t), λ agree. c.have_records.ensures.1 (h.1 agree))
