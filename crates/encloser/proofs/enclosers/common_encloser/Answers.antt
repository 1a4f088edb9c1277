use Rattle.std.proofs.Common.{sym, subst}
use Rattle.dname.specs.Name.{IsCommon}
use Rattle.encloser.specs.Encloser.{IsCommonEncloser, encloser_of}
use Rattle.encloser.proofs.EncloserLemmas.{longer_is, encloser_is, one_encloser}
use Rattle.encloser.proofs.enclosers.common_encloser.Goals as goal

pub returns-clause-longest : goal.returns-clause-longest
returns-clause-longest c =
    let name = c.args.name.now in
    let owner = c.args.owner.now in
    let next = c.args.next.now in
    subst (IsCommonEncloser name owner next) (sym c.name.ensures)
    (longer_is name owner next c.common.result c.common-2.result c.longer.result
    (subst (λ n. IsCommon n owner c.common.result) c.lent-lent.ensures c.common.ensures)
    (subst (λ n. IsCommon n next c.common-2.result) c.lent-lent.ensures c.common-2.ensures)
    c.longer.ensures.first c.longer.ensures.second)

pub returns-clause-value : goal.returns-clause-value
returns-clause-value c =
    one_encloser c.args.name.now c.args.owner.now c.args.next.now _ (encloser_of c.args.name.now c.args.owner.now c.args.next.now)
    (returns-clause-longest c) (encloser_is c.args.name.now c.args.owner.now c.args.next.now)
