use Rattle.std.proofs.Common.{◌∙◌, ap}
use Rattle.dname.specs.NameData.{one_name_in}
use Rattle.resolver.proofs.StepLemmas.{not_made, made_under}
use Rattle.resolver.proofs.target.made_by.Goals as goal

pub returns-then-not-is_under : goal.returns-then-not-is_under
returns-then-not-is_under c =
    not_made c.args.name.now c.lent.result c.owner-owner.result c.args.set.now c.is_under.result c.lent.ensures c.owner-owner.ensures c.is_under.ensures c.if-not-is_under.true

pub returns : goal.returns
returns c =
    c.target_of.ensures
    ∙ made_under c.args.name.now c.lent.result c.owner-owner.result c.in_ok-suffix.suffix c.args.set.now c.is_under.result c.lent.ensures c.owner-owner.ensures c.is_under.ensures
    c.if-not-is_under.false (c.in_ok-suffix.ensures ∙ ap one_name_in c.items.ensures)
