use Rattle.std.proofs.Common.{◌≡◌, Some, sym, ◌∙◌, ap, subst}
use Rattle.dname.specs.Name.{IsUnder}
use Rattle.dname.specs.NameData.{one_name_in}
use Rattle.resolver.specs.Dname.{Dname}
use Rattle.resolver.specs.Target.{target_of}
use Rattle.resolver.proofs.StepLemmas.{made_above, stepped_by}
use Rattle.resolver.proofs.dname_step.by_dname.Goals as goal

pub returns-clause-step : goal.returns-clause-step
returns-clause-step c =
    let zone = c.args.zone.now in
    let name = c.args.name.now in
    let dname : Dname = record { set = c.dname.inside.set.now; suffix = c.dname.inside.suffix } in
    let is : dname ≡ c.in_ok-dname.dname = c.dname.view_is in
    stepped_by zone.held c.args.now c.args.qtype zone.apex name dname c.target_of-target.result c.dname_step.result c.requires
    (ap Some is ∙ c.in_ok-dname.ensures.dname)
    (subst (λ (d : Dname). IsUnder name d.set.owner) (sym is) c.in_ok-dname.ensures.under)
    (subst (λ (d : Dname). one_name_in d.set.items ≡ Some d.suffix) (sym is) c.in_ok-dname.ensures.suffix)
    (c.target_of-target.ensures ∙ ap (λ owner. target_of name owner dname.suffix) c.owner.ensures)
    (c.dname_step.ensures.step name)

pub returns-clause-leads : goal.returns-clause-leads
returns-clause-leads c =
    let name = c.args.name.now in
    let dname : Dname = record { set = c.dname.inside.set.now; suffix = c.dname.inside.suffix } in
    let is : dname ≡ c.in_ok-dname.dname = c.dname.view_is in
    c.dname_step.ensures.leads name
    (c.target_of-target.ensures
    ∙ ap (λ owner. target_of name owner dname.suffix) c.owner.ensures
    ∙ made_above name dname
    (subst (λ (d : Dname). IsUnder name d.set.owner) (sym is) c.in_ok-dname.ensures.under)
    (subst (λ (d : Dname). one_name_in d.set.items ≡ Some d.suffix) (sym is) c.in_ok-dname.ensures.suffix))

pub returns-clause-ttl : goal.returns-clause-ttl
returns-clause-ttl c = c.dname_step.ensures.ttl c.args.now
