use Rattle.std.proofs.Common.{◌∙◌, ap}
use Rattle.std.specs.Prelude.{nat_eq}
use Rattle.std.specs.Cmp.Lexicographic.{pointwise}
use Rattle.dname.specs.Name.{wire_of}
use Rattle.dname.proofs.WireLemmas.{same_name, pointwise_name}
use Rattle.dname.proofs.lent_name.LentNamePartialEq.eq.Goals as goal

pub returns-clause-value : goal.returns-clause-value
returns-clause-value c =
    let is = c.octets_eq.ensures ∙ ap (λ l. pointwise nat_eq l c.wire-2.result.now) c.wire.ensures.spelled ∙ ap (pointwise nat_eq (wire_of c.args.self.now)) c.wire-2.ensures.spelled in
    pointwise_name _ _ _ (same_name c.args.self.now c.args.other.now c.octets_eq.result c.wire.ensures.name c.wire-2.ensures.name is)

pub returns-clause-same : goal.returns-clause-same
returns-clause-same c =
    let is = c.octets_eq.ensures ∙ ap (λ l. pointwise nat_eq l c.wire-2.result.now) c.wire.ensures.spelled ∙ ap (pointwise nat_eq (wire_of c.args.self.now)) c.wire-2.ensures.spelled in
    same_name c.args.self.now c.args.other.now c.octets_eq.result c.wire.ensures.name c.wire-2.ensures.name is
