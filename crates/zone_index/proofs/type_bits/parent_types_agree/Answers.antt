use Rattle.std.proofs.Common.{inl, inr, refl}
use Rattle.std.proofs.lemmas.Bool.{false≢true}
use Rattle.dname.specs.declared.types.TheConstants.{CNAME_TYPE, DS_TYPE, NS_TYPE}
use Rattle.zone_index.proofs.TypeLemmas.{parent_by}
use Rattle.zone_index.proofs.type_bits.parent_types_agree.Goals as goal

pub returns-then-not-agrees : goal.returns-then-not-agrees
returns-then-not-agrees c = (λ e. absurd (false≢true e), λ all. absurd (false≢true (c.if-not-agrees.ensures.1 (all NS_TYPE (inl refl)))))

pub returns-then-not-agrees-2 : goal.returns-then-not-agrees-2
returns-then-not-agrees-2 c = (λ e. absurd (false≢true e), λ all. absurd (false≢true (c.if-not-agrees-2.ensures.1 (all DS_TYPE (inr (inl refl))))))

pub returns : goal.returns
returns c = (
  λ t. parent_by c.args.records.now.zone c.args.records.now.name c.args.types.now (c.if-not-agrees.ensures.0 refl) (c.if-not-agrees-2.ensures.0 refl) (c.agrees-3.ensures.0 t),
  λ all. c.agrees-3.ensures.1 (all CNAME_TYPE (inr (inr refl))),
)
